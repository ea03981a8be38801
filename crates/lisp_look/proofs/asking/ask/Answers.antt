use Rattle.std.proofs.Common.{None, refl, sym}
use Rattle.lisp_look.proofs.Calls.{asks_fault, asks_more, tries_more, is_none}
use Rattle.lisp_look.proofs.asking.ask.Goals as goal

pub returns-in_err-answer-clause-asks : goal.returns-in_err-answer-clause-asks
returns-in_err-answer-clause-asks g c = record {
  started = c.now-started.result;
  mid = _;
  read = refl;
  asks = asks_fault c.args.look.now c.args.server.now c.now-started.result c.args.tries _ _ c.from_residual-in_err-answer.result c.in_err-answer.field-0.0 c.from_residual-in_err-answer.ensures.1
      (tries_more c.args.look.now c.args.server.now c.now-started.result _ c.args.tries _ _ _ None c.loop-test.true c.loop.invariant c.in_err-answer.ensures.asks);
}

pub returns-then-is_some-clause-asks : goal.returns-then-is_some-clause-asks
returns-then-is_some-clause-asks g c = record {
  started = c.now-started.result;
  mid = _;
  read = refl;
  asks = tries_more c.args.look.now c.args.server.now c.now-started.result _ c.args.tries _ _ _ _ c.loop-test.true c.loop.invariant c.in_ok-answer.ensures.asks;
}

pub loop-preserved : goal.loop-preserved
loop-preserved g c =
    asks_more c.args.look.now c.args.server.now c.now-started.result c.loop.counter 1 _ _ _ None c.loop.invariant (rw (is_none _ (sym c.if-is_some.ensures)) at c.in_ok-answer.ensures.asks)

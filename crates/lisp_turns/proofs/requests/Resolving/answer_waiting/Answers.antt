use Rattle.std.proofs.Common.{◌∙◌}
use Rattle.lisp_turns.proofs.Answering.{answered_more}
use Rattle.lisp_turns.proofs.requests.Resolving.answer_waiting.Goals as goal

pub loop-preserved : goal.loop-preserved
loop-preserved g c = record {
  answered = answered_more c.loop.invariant.answered (rw (c.if-not-answer_next.false, c.loop.invariant.quiet) at c.answer_next.ensures.answers);
  quiet = c.answer_next.ensures.quiet ∙ c.loop.invariant.quiet;
}

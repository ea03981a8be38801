use Rattle.std.proofs.Common.{take}
use Rattle.lisp_upkeep.proofs.Saved.{goes_on, each_stops, all_raised}
use Rattle.lisp_upkeep.proofs.raising.raise.Goals as goal

pub loop-kept-preserved : goal.loop-kept-preserved
loop-kept-preserved g c =
    goes_on c.args.by c.args.nonces.now c.loop-kept.kept-index _ c.raised.result (g.S.NonceStore.seen c.args.store.now) (g.S.NonceStore.seen c.loop-kept.store) (g.S.NonceStore.seen c.save.new.self) c.loop-kept-test.true c.raised.ensures
    c.loop-kept.invariant c.in_ok-save.ensures.done c.in_ok-save.ensures.others c.in_ok-save.ensures.proceeds

pub returns-in_err-save-clause-each : goal.returns-in_err-save-clause-each
returns-in_err-save-clause-each g c =
    each_stops c.args.by c.args.nonces.now (take c.loop-kept.kept-index c.args.nonces.now) c.loop-kept.kept-index _ c.raised.result (g.S.NonceStore.seen c.args.store.now) (g.S.NonceStore.seen c.loop-kept.store) (g.S.NonceStore.seen c.save.new.self)
    c.loop-kept-test.true c.raised.ensures c.loop-kept.invariant c.in_err-save.ensures.doubt c.in_err-save.ensures.others

pub returns-clause-raised : goal.returns-clause-raised
returns-clause-raised g c = all_raised c.args.by c.args.nonces.now c.loop-kept.kept-index (g.S.NonceStore.seen c.args.store.now) (g.S.NonceStore.seen c.loop-kept.store) c.loop-kept-test.false c.loop-kept.invariant

use Rattle.lisp_sites.proofs.Each.{goes_on, ends, is_done}
use Rattle.lisp_sites.proofs.entries.read_each.Goals as goal

pub returns-in-Err-clause-gives : goal.returns-in-Err-clause-gives
returns-in-Err-clause-gives g c =
    rw (c.within.ensures) (ends c.args.array (g.L.Entries.read c.args.given.now) c.args.values.now (g.L.Entries.entries c.loop-index.list) c.loop-index.index _ c.loop-index.invariant c.index-values-index.result c.in-Err.fault.fault c.in-Err.fault.place c.loop-index-test.true c.index-values-index.is c.in-Err.ensures.gives)

pub loop-index-preserved : goal.loop-index-preserved
loop-index-preserved g c =
    goes_on c.args.array (g.L.Entries.read c.args.given.now) c.args.values.now (g.L.Entries.entries c.loop-index.list) c.loop-index.index _ c.loop-index.invariant c.index-values-index.result _ c.loop-index-test.true c.index-values-index.is c.in-Ok.ensures.gives

pub returns-clause-gives : goal.returns-clause-gives
returns-clause-gives g c = is_done c.args.array (g.L.Entries.read c.args.given.now) c.args.values.now (g.L.Entries.entries c.loop-index.list) c.loop-index.index _ c.loop-index.invariant c.loop-index-test.false

use Rattle.lisp_check.specs.Warning.{of_record}
use Rattle.lisp_check.proofs.Each.{each_next, each_done}
use Rattle.lisp_check.proofs.routers.warn_of_records.Goals as goal

pub loop-place-preserved : goal.loop-place-preserved
loop-place-preserved g c = each_next (of_record c.args.sites.now c.args.router c.args.entry.now) c.args.records.now _ c.loop-place.place c.index-records-place.result _ _ c.loop-place-test.true c.index-records-place.is c.loop-place.invariant c.in_ok-warn_of_record.ensures.added

pub returns-clause-added : goal.returns-clause-added
returns-clause-added g c = each_done (of_record c.args.sites.now c.args.router c.args.entry.now) c.args.records.now _ c.loop-place.place _ c.loop-place-test.false c.loop-place.invariant

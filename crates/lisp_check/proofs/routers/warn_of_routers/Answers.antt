use Rattle.lisp_check.specs.Warning.{of_router}
use Rattle.lisp_check.proofs.Each.{each_next, each_done}
use Rattle.lisp_check.proofs.routers.warn_of_routers.Goals as goal

pub loop-place-preserved : goal.loop-place-preserved
loop-place-preserved g c = each_next (of_router c.args.config.now) c.args.routers.now _ c.loop-place.place c.index-routers-place.result _ _ c.loop-place-test.true c.index-routers-place.is c.loop-place.invariant c.in_ok-warn_of_router.ensures.added

pub returns-clause-added : goal.returns-clause-added
returns-clause-added g c = each_done (of_router c.args.config.now) c.args.routers.now _ c.loop-place.place _ c.loop-place-test.false c.loop-place.invariant

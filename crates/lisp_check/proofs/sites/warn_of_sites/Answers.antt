use Rattle.lisp_check.specs.Warning.{of_site}
use Rattle.lisp_check.proofs.Each.{each_next, each_done}
use Rattle.lisp_check.proofs.sites.warn_of_sites.Goals as goal

pub loop-place-preserved : goal.loop-place-preserved
loop-place-preserved g c = each_next (of_site c.args.sites.now c.args.routers.now) c.args.sites.now _ c.loop-place.place c.index-sites-place.result _ _ c.loop-place-test.true c.index-sites-place.is c.loop-place.invariant c.in_ok-warn_of_site.ensures.added

pub returns-clause-added : goal.returns-clause-added
returns-clause-added g c = each_done (of_site c.args.sites.now c.args.routers.now) c.args.sites.now _ c.loop-place.place _ c.loop-place-test.false c.loop-place.invariant

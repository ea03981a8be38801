use Rattle.std.proofs.Common.{◌≡◌, ◌||◌, length}
use Rattle.std.specs.BTreeSet.{contains}
use Rattle.lisp_records.specs.{Router.router_cmp, declared.router.RouterId.RouterId}
use Rattle.lisp_lookup.specs.Setting.{has_router, last_rows}
use Rattle.lisp_lookup.proofs.growth.add_last.Given as goal

abbrev pub invariant-loop-row : goal.invariant-loop-row
invariant-loop-row g l = (router : RouterId) → (contains router_cmp l.routers router || has_router (last_rows l.rest) l.site l.now router) ≡ (contains router_cmp l.initial.routers router || has_router (last_rows l.given) l.site l.now router)

abbrev pub decreases-loop-row : goal.decreases-loop-row
decreases-loop-row g l = length l.rest

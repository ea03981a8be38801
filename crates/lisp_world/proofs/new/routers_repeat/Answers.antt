use Rattle.std.proofs.Common.{ℕ, Bool, List, ap, sym, ◌∙◌}
use Rattle.std.specs.List.{list_any}
use Rattle.lisp_records.specs.{Address.addr_eq, Router.router_eq}
use Rattle.lisp_policy.specs.Configuration.{RouterEntryValue}
use Rattle.lisp_world.proofs.Keys.{behind, passed_first, passed_second, again_here, again_later, again_nowhere}
use Rattle.lisp_world.proofs.new.routers_repeat.Goals.{then-is_router_at-via-then-is_router_at, then-is_router_at-via-else-is_router_at+then-is_router}
use Rattle.lisp_world.proofs.new.routers_repeat.Goals as goal

-- routers of one address, and of one identity
abbrev alike : RouterEntryValue → RouterEntryValue → Bool
alike a b = addr_eq a.address b.address

abbrev same : RouterEntryValue → RouterEntryValue → Bool
same a b = router_eq a.me b.me

-- a router is so related to one behind a place
abbrev meets : (RouterEntryValue → RouterEntryValue → Bool) → List RouterEntryValue → ℕ → RouterEntryValue → Bool
meets test routers i x = list_any (test x) (behind routers i)

pub returns-then-is_router_at : goal.returns-then-is_router_at
returns-then-is_router_at g c =
    let x = c.index-routers-i.result in
    again_here alike same c.args.routers.now c.loop-i.i x c.loop-i-test.true c.index-routers-i.is c.loop-i.invariant
    (elim c.then-is_router_at.branch [
      | then-is_router_at-via-then-is_router_at w ↦
          passed_first (meets alike c.args.routers.now c.loop-i.i x) (meets same c.args.routers.now c.loop-i.i x)
          (ap (meets alike c.args.routers.now c.loop-i.i) (sym c.router.view_is) ∙ sym c.is_router_at.ensures ∙ w.if-is_router_at.true)
      | then-is_router_at-via-else-is_router_at+then-is_router w ↦
          passed_second (meets alike c.args.routers.now c.loop-i.i x) (meets same c.args.routers.now c.loop-i.i x)
          (ap (meets same c.args.routers.now c.loop-i.i) (sym c.router.view_is) ∙ sym w.is_router.ensures ∙ w.if-is_router.true)
    ])

pub loop-i-preserved : goal.loop-i-preserved
loop-i-preserved g c =
    again_later alike same c.args.routers.now c.loop-i.i c.index-routers-i.result c.loop-i-test.true c.index-routers-i.is c.loop-i.invariant
    (ap (meets alike c.args.routers.now c.loop-i.i) (sym c.router.view_is) ∙ sym c.is_router_at.ensures ∙ c.if-is_router_at.false)
    (ap (meets same c.args.routers.now c.loop-i.i) (sym c.router.view_is) ∙ sym c.is_router.ensures ∙ c.if-is_router.false)

pub returns : goal.returns
returns g c = again_nowhere alike same c.args.routers.now c.loop-i.i c.loop-i-test.false c.loop-i.invariant

use Rattle.std.proofs.Common.{◌≡◌, drop}
use Rattle.std.specs.Prelude.{◌||◌}
use Rattle.lisp_records.specs.{Address.addr_eq, Router.router_eq}
use Rattle.lisp_world.specs.Openings.{has_twice}
use Rattle.lisp_world.proofs.new.routers_repeat.Given as goal

-- the addresses and identities from here on repeat where all do
abbrev pub invariant-loop-i : goal.invariant-loop-i
invariant-loop-i g l = (has_twice (λ a b. addr_eq a.address b.address) (drop l.i l.routers) || has_twice (λ a b. router_eq a.me b.me) (drop l.i l.routers))
    ≡ (has_twice (λ a b. addr_eq a.address b.address) l.routers || has_twice (λ a b. router_eq a.me b.me) l.routers)

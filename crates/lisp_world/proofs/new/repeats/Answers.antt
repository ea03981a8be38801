use Rattle.std.proofs.Common.{◌≡◌, ◌++◌, Bool, map, sym, ap, ◌∙◌}
use Rattle.std.specs.Prelude.{◌||◌}
use Rattle.lisp_records.specs.{Address.addr_eq, Router.router_eq}
use Rattle.lisp_model.specs.Trace.{addresses}
use Rattle.lisp_world.specs.Openings.{has_twice, repeats}
use Rattle.lisp_world.proofs.Keys.{is_network}
use Rattle.lisp_world.proofs.new.repeats.Goals as goal

pub returns-else-servers_repeat-clause-network : goal.returns-else-servers_repeat-clause-network
returns-else-servers_repeat-clause-network g c = λ none.
    let servers = c.servers-servers.ensures in
    let routers = c.routers-routers.ensures.routers in
    let all : (c.servers_repeat.result || has_twice (λ a b. addr_eq a.address b.address) c.args.config.now.routers) ≡ has_twice addr_eq (addresses c.args.config.now) =
    (λ i. c.servers_repeat.result || has_twice (λ a b. addr_eq a.address b.address) (sym routers i)) ∙ c.servers_repeat.ensures
    ∙ (λ i. has_twice addr_eq (map (λ s. s.address) (servers i) ++ map (λ r. r.address) (routers i))) in
    let first : has_twice (λ a b. addr_eq a.address b.address) c.args.config.now.routers ≡ has_twice addr_eq (addresses c.args.config.now) =
    ap (λ (b : Bool). b || has_twice (λ a b. addr_eq a.address b.address) c.args.config.now.routers) (sym c.if-servers_repeat.false) ∙ all in
    let exact : c.routers_repeat.result ≡ repeats c.args.config.now = c.routers_repeat.ensures
    ∙ (λ i. has_twice (λ a b. addr_eq a.address b.address) (routers i) || has_twice (λ a b. router_eq a.me b.me) (routers i))
    ∙ ap (λ (b : Bool). b || has_twice (λ a b. router_eq a.me b.me) c.args.config.now.routers) first in
    is_network c.args.config.now c.routers-routers.ensures.configuration (sym exact ∙ none)

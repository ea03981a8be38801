use Rattle.std.proofs.Common.{ℕ, Bool, List, ap, sym, ◌∙◌}
use Rattle.std.specs.List.{list_any}
use Rattle.lisp_records.specs.Address.{addr_eq}
use Rattle.lisp_policy.specs.Configuration.{ServerEntryValue, RouterEntryValue}
use Rattle.lisp_world.proofs.Keys.{behind, passed_first, passed_second, meets_here, meets_later, joined_rest}
use Rattle.lisp_world.proofs.new.servers_repeat.Goals.{then-is_server_at-via-then-is_server_at, then-is_server_at-via-else-is_server_at+then-is_router_at}
use Rattle.lisp_world.proofs.new.servers_repeat.Goals as goal

-- a Map-Server has the address of one behind a place, or of a router
abbrev meets_server : List ServerEntryValue → ℕ → ServerEntryValue → Bool
meets_server servers i x = list_any (λ s. addr_eq x.address s.address) (behind servers i)

abbrev meets_router : List RouterEntryValue → ServerEntryValue → Bool
meets_router routers x = list_any (λ r. addr_eq x.address r.address) routers

pub returns-then-is_server_at : goal.returns-then-is_server_at
returns-then-is_server_at g c =
    let x = c.index-servers-i.result in
    meets_here addr_eq (λ s. s.address) (λ r. r.address) c.args.servers.now c.args.routers.now c.loop-i.i x c.loop-i-test.true c.index-servers-i.is c.loop-i.invariant
    (elim c.then-is_server_at.branch [
      | then-is_server_at-via-then-is_server_at w ↦
          passed_first (meets_server c.args.servers.now c.loop-i.i x) (meets_router c.args.routers.now x)
          (ap (meets_server c.args.servers.now c.loop-i.i) (sym c.server.view_is) ∙ sym c.is_server_at.ensures ∙ w.if-is_server_at.true)
      | then-is_server_at-via-else-is_server_at+then-is_router_at w ↦
          passed_second (meets_server c.args.servers.now c.loop-i.i x) (meets_router c.args.routers.now x)
          (ap (meets_router c.args.routers.now) (sym c.server.view_is) ∙ sym w.is_router_at.ensures ∙ w.if-is_router_at.true)
    ])

pub loop-i-preserved : goal.loop-i-preserved
loop-i-preserved g c =
    meets_later addr_eq (λ s. s.address) (λ r. r.address) c.args.servers.now c.args.routers.now c.loop-i.i c.index-servers-i.result c.loop-i-test.true c.index-servers-i.is c.loop-i.invariant
    (ap (meets_server c.args.servers.now c.loop-i.i) (sym c.server.view_is) ∙ sym c.is_server_at.ensures ∙ c.if-is_server_at.false)
    (ap (meets_router c.args.routers.now) (sym c.server.view_is) ∙ sym c.is_router_at.ensures ∙ c.if-is_router_at.false)

pub returns : goal.returns
returns g c = joined_rest addr_eq (λ s. s.address) (λ r. r.address) c.args.servers.now c.args.routers.now c.loop-i.i c.loop-i-test.false c.loop-i.invariant

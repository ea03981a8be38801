use Rattle.std.proofs.Common.{ap, ◌∙◌, sym, arith, ◌-◌, ◌+◌, ◌<◌, ◌≡◌, ℕ, length, Err}
use Rattle.std.proofs.lemmas.List.{length-set}
use Rattle.lisp_refinement.specs.Events.{start_line}
use Rattle.lisp_nodes.proofs.RouterCalls.{router_changed}
use Rattle.lisp_world.proofs.Taking.{start_tells}
use Rattle.lisp_world.proofs.world.World.restart_router.Goals.{in-Ok, in-Err}
use Rattle.lisp_world.proofs.world.World.restart_router.Goals as goal

pub returns-clause-restarts : goal.returns-clause-restarts
returns-clause-restarts g c =
    let router = rw (← c.self.view_is) at c.requires in
    let least = router.0 in
    let most = router.1 in
    let servers = c.self.inside.servers.ok.0 in
    let nodes = c.self.invariant.1 in
    let count = c.len.ensures in
    let place : ℕ = c.args.node - c.len.result in
    let number : c.args.node ≡ length c.self.inside.servers.items + place = omega (arith, least, servers, count) in
    let within : place < length c.self.inside.routers.items = omega (arith, least, most, servers, nodes, count) in
    rw (← c.self.view_is)
    (record {
      acts = router_changed _ c.args.node place c.index_mut.result.now c.restart.new.self number within c.index_mut.ensures.value;
      answer = c.restart.result;
      restarts = c.restart.ensures.restarts;
      said = elim c.match-restart.branch [
        | in-Ok w ↦ w.result-is ∙ ap (start_line c.args.node) (sym w.in-Ok.is)
        | in-Err w ↦ w.result-is ∙ ap (start_line c.args.node) (sym w.in-Err.is)
      ];
    })

pub overflow_sub-place : goal.overflow_sub-place
overflow_sub-place g c =
    omega (arith, rw (← c.self.view_is) at c.requires, c.len.ensures, c.self.inside.servers.ok.0)

pub index_mut-requires : goal.index_mut-requires
index_mut-requires g c =
    omega (arith, rw (← c.self.view_is) at c.requires, c.len.ensures, c.self.inside.servers.ok.0, c.self.inside.routers.ok.0, c.self.invariant.1)

-- as many routers as before
pub invariant_of-self : goal.invariant_of-self
invariant_of-self g c =
    (c.self.invariant.0, omega (arith, length-set c.self.inside.routers.items (c.args.node - c.len.result) c.restart.new.self, c.self.invariant.1))

pub returns-clause-tells : goal.returns-clause-tells
returns-clause-tells g c =
    elim c.match-restart.branch [
      | in-Ok w ↦ rw w.result-is tt
      | in-Err w ↦ rw w.result-is (start_tells _ _ c.args.node w.in-Err.fault (λ is. w.in-Err.ensures.memory (ap Err is)) (λ is. w.in-Err.ensures.store_memory (ap Err is)))
    ]

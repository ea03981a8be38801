use Rattle.std.proofs.{Common.arith, Common.sym, lemmas.List.length-set}
use Rattle.lisp_refinement.specs.World.{WorldState}
use Rattle.lisp_world.proofs.Sending.{sent, sent_headed}
use Rattle.lisp_world.proofs.Taking.{event_taken, no_pair_fault, router_there, server_there, sent_tells}
use Rattle.lisp_world.proofs.world.World.send.Goals as goal

pub send_line-requires-clause-head : goal.send_line-requires-clause-head
send_line-requires-clause-head g c = sent_headed _ _ _ _ _ _ _ c.send-answer.ensures.up

pub invariant_of-self-4 : goal.invariant_of-self-4
invariant_of-self-4 g c = (c.self.invariant.0, omega (arith, length-set c.self.inside.routers.items c.in_ok-place.place c.send-answer.new.self, c.self.invariant.1))

pub returns : goal.returns
returns g c =
    let found = c.in_ok-place.ensures.room.0 in
    let possible = no_pair_fault _ _ c.self.view_is c.args.server c.args.router _ _ found c.place_beside-place.ensures.fault in
    let there = router_there _ _ c.self.view_is c.args.server c.args.router _ _ found c.place_beside-place.ensures.place in
    let server = server_there _ _ c.self.view_is c.args.server c.args.router _ _ found c.place_beside-place.ensures.server in
    let inside = c.self.inside in
    let w : WorldState = record { sites = inside.sites; addresses = inside.addresses.items; clock = inside.clock; bag = inside.bag.items; servers = inside.servers.items; routers = inside.routers.items } in
    let e = c.send-answer.ensures in
    let told = c.send_line.ensures w c.with_room.ensures.same c.address-from.ensures c.address-to.ensures in
    rw (← c.self.view_is)
    (event_taken _ _ (Unit {0}) w _ _ c.send_line.result (sym possible)
    (sent w c.args.router c.args.server c.args.part c.in_ok-place.place c.args.fate c.send_line.result c.index_mut.result.now c.send-answer.new.self c.send_line.new.bag.items there server
    c.index_mut.ensures.value c.send-answer.result e.up e.down told)
    (sent_tells _ _ c.args.router w c.args.server c.args.part c.send-answer.result c.send_line.result told.0 told.2 e.memory e.store_memory))

pub address-from-requires : goal.address-from-requires
address-from-requires g c =
    omega (arith, router_there _ _ c.self.view_is c.args.server c.args.router _ _ c.in_ok-place.ensures.room.0 c.place_beside-place.ensures.place, c.self.invariant.1)

pub address-to-requires : goal.address-to-requires
address-to-requires g c =
    omega (arith, server_there _ _ c.self.view_is c.args.server c.args.router _ _ c.in_ok-place.ensures.room.0 c.place_beside-place.ensures.server, c.self.invariant.1)

pub index_mut-requires : goal.index_mut-requires
index_mut-requires g c =
    omega (arith, router_there _ _ c.self.view_is c.args.server c.args.router _ _ c.in_ok-place.ensures.room.0 c.place_beside-place.ensures.place, c.self.inside.routers.ok.0)

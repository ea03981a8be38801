use Rattle.std.proofs.{Common.arith, Common.sym, lemmas.List.length-set}
use Rattle.lisp_refinement.specs.World.{WorldState}
use Rattle.lisp_world.proofs.Noticing.{noticed, notice_headed}
use Rattle.lisp_world.proofs.Taking.{event_taken, no_pair_fault, router_there, server_there, noticed_tells}
use Rattle.lisp_world.proofs.world.World.notice.Goals as goal

pub notice_line-requires-clause-head : goal.notice_line-requires-clause-head
notice_line-requires-clause-head g c = notice_headed _ _ _ _ _ c.notify-notice.ensures.notifies

pub invariant_of-self-3 : goal.invariant_of-self-3
invariant_of-self-3 g c = (c.self.invariant.0, omega (arith, length-set c.self.inside.servers.items c.args.server c.notify-notice.new.self, c.self.invariant.1))

pub returns : goal.returns
returns g c =
    let found = c.in_ok-place.ensures.room.0 in
    let possible = no_pair_fault _ _ c.self.view_is c.args.server c.args.router _ _ found c.place_beside-place.ensures.fault in
    let router = router_there _ _ c.self.view_is c.args.server c.args.router _ _ found c.place_beside-place.ensures.place in
    let server = server_there _ _ c.self.view_is c.args.server c.args.router _ _ found c.place_beside-place.ensures.server in
    let inside = c.self.inside in
    let w : WorldState = record { sites = inside.sites; addresses = inside.addresses.items; clock = inside.clock; bag = inside.bag.items; servers = inside.servers.items; routers = inside.routers.items } in
    let e = c.notify-notice.ensures in
    let told = c.notice_line.ensures w c.with_room.ensures.same c.address-from.ensures in
    rw (← c.self.view_is)
    (event_taken _ _ (Unit {0}) w _ _ c.notice_line.result (sym possible)
    (noticed w c.args.server c.args.router c.in_ok-place.place c.notice_line.result c.index_mut.result.now c.notify-notice.new.self c.index.result.now c.me-me.result c.notice_line.new.bag.items router server
    c.index_mut.ensures.value c.index.ensures c.me-me.ensures c.notify-notice.result c.args.fate e.notifies told)
    (noticed_tells _ _ c.args.server w c.args.router c.notify-notice.result c.notice_line.result told.0 told.2 e.memory e.load_memory e.save_memory))

pub address-from-requires : goal.address-from-requires
address-from-requires g c =
    omega (arith, server_there _ _ c.self.view_is c.args.server c.args.router _ _ c.in_ok-place.ensures.room.0 c.place_beside-place.ensures.server, c.self.invariant.1)

pub index-requires : goal.index-requires
index-requires g c =
    omega (arith, router_there _ _ c.self.view_is c.args.server c.args.router _ _ c.in_ok-place.ensures.room.0 c.place_beside-place.ensures.place, c.self.inside.routers.ok.0)

pub index_mut-requires : goal.index_mut-requires
index_mut-requires g c =
    omega (arith, server_there _ _ c.self.view_is c.args.server c.args.router _ _ c.in_ok-place.ensures.room.0 c.place_beside-place.ensures.server, c.self.inside.servers.ok.0)

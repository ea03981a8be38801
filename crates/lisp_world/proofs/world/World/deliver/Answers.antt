use Rattle.std.proofs.Common.{◌≡◌, ◌<◌, length, refl, sym, ap, ◌∙◌, arith}
use Rattle.std.specs.List.{length_refill}
use Rattle.lisp_refinement.specs.World.{DatagramValue, WorldState}
use Rattle.lisp_world.proofs.Taking.{addressed_there, datagram_there, no_datagram_fault, handed, lost}
use Rattle.lisp_world.proofs.world.World.deliver.Goals as goal

pub index-datagram-requires : goal.index-datagram-requires
index-datagram-requires g c =
    let possible = no_datagram_fault _ _ c.self.view_is c.args.k _ _ c.in_ok-with_room.ensures.room.0 c.check_datagram-checked.ensures in
    let within = datagram_there _ c.args.k possible in
    let long = ap length c.with_room.ensures.same in
    omega (arith, within, long, c.with_room.new.bag.ok.0)

pub returns-in_default : goal.returns-in_default
returns-in_default g c =
    let possible = no_datagram_fault _ _ c.self.view_is c.args.k _ _ c.in_ok-with_room.ensures.room.0 c.check_datagram-checked.ensures in
    rw (← c.self.view_is) (lost _ _ _ _ c.with_room.ensures.same c.args.k c.args.fate possible _ _ c.index-datagram.ensures c.datagram.view_is c.in_default.ensures)

pub address-address-requires : goal.address-address-requires
address-address-requires g c = addressed_there _ c.datagram.inside.to c.in-Some.node c.in-Some.ensures

pub index-requires : goal.index-requires
index-requires g c =
    let possible = no_datagram_fault _ _ c.self.view_is c.args.k _ _ c.in_ok-with_room.ensures.room.0 c.check_datagram-checked.ensures in
    let within = datagram_there _ c.args.k possible in
    let long = ap length c.with_room.ensures.same in
    omega (arith, within, long, c.with_room.new.bag.ok.0)

pub hear-line-requires : goal.hear-line-requires
hear-line-requires g c =
    let there : c.in-Some.node < length c.self.inside.addresses.items = addressed_there _ c.datagram.inside.to _ c.in-Some.ensures in
    let servers = ap length c.deref_mut.ensures.value in
    let routers = ap length c.deref_mut-2.ensures.value in
    omega (arith, there, servers, routers, c.self.invariant.1)

pub invariant_of-self-4 : goal.invariant_of-self-4
invariant_of-self-4 g c =
    let inside = c.self.inside in
    let servers = length_refill inside.servers.len inside.servers.items c.hear-line.new.servers inside.servers.ok.0 in
    let routers = length_refill inside.routers.len inside.routers.items c.hear-line.new.routers inside.routers.ok.0 in
    (c.self.invariant.0, omega (arith, servers, routers, inside.servers.ok.0, inside.routers.ok.0, c.self.invariant.1))

pub returns : goal.returns
returns g c =
    let inside = c.self.inside in
    let w : WorldState = record { sites = inside.sites; addresses = inside.addresses.items; clock = inside.clock; bag = inside.bag.items; servers = inside.servers.items; routers = inside.routers.items } in
    let possible = no_datagram_fault _ _ c.self.view_is c.args.k _ _ c.in_ok-with_room.ensures.room.0 c.check_datagram-checked.ensures in
    let long = ap length c.with_room.ensures.same in
    let count : length inside.bag.items ≡ c.len.result = omega (arith, c.len.ensures, long, c.with_room.new.bag.ok.0) in
    let servers = ap length c.deref_mut.ensures.value in
    let routers = ap length c.deref_mut-2.ensures.value in
    let all_servers : inside.servers.len ≡ length c.hear-line.new.servers = omega (arith, servers, c.hear-line.auto.servers, inside.servers.ok.0) in
    let all_routers : inside.routers.len ≡ length c.hear-line.new.routers = omega (arith, routers, c.hear-line.auto.routers, inside.routers.ok.0) in
    rw (← c.self.view_is)
    (handed _ _ w c.with_room.new.bag.items c.with_room.ensures.same c.args.k c.args.fate possible _ c.index-datagram.result.now c.index-datagram.ensures c.datagram.view_is _ c.in-Some.node c.index.result.now
    c.as_slice-bytes.result.now c.address-address.result c.hear-line.result.0 c.hear-line.result.1 c.hear-line.new.servers c.hear-line.new.routers inside.servers.len inside.routers.len c.post_reply.new.bag.items
    c.in-Some.ensures c.index.ensures (c.as_slice-bytes.ensures ∙ ap (λ (p : DatagramValue). p.bytes) c.behind-self.view_is) all_servers all_routers c.address-address.ensures c.post_reply.ensures
    (c.hear-line.ensures.hears w (sym c.deref_mut.ensures.value) (sym c.deref_mut-2.ensures.value) refl count) c.hear-line.ensures.tells)

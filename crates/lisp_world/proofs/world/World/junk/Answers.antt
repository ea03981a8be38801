use Rattle.std.proofs.Common.{◌≡◌, ◌<◌, ◌++◌, length, refl, sym, ap, ◌∙◌, arith}
use Rattle.std.specs.List.{length_refill}
use Rattle.lisp_nonces.specs.declared.fate.Fate.TheVariants.{Done}
use Rattle.lisp_refinement.specs.{Events.datagram_to, World.WorldState}
use Rattle.lisp_world.proofs.Taking.{arrived, node_there, event_taken}
use Rattle.lisp_world.proofs.world.World.junk.Goals as goal

pub address-address-requires : goal.address-address-requires
address-address-requires g c = node_there _ _ c.self.view_is c.args.to c.in_ok-check_node.ensures

pub hear-line-requires : goal.hear-line-requires
hear-line-requires g c =
    let there : c.args.to < length c.self.inside.addresses.items = node_there _ _ c.self.view_is c.args.to c.in_ok-check_node.ensures in
    let servers = ap length c.deref_mut.ensures.value in
    let routers = ap length c.deref_mut-2.ensures.value in
    omega (arith, there, servers, routers, c.self.invariant.1)

pub invariant_of-self-3 : goal.invariant_of-self-3
invariant_of-self-3 g c =
    let inside = c.self.inside in
    let servers = length_refill inside.servers.len inside.servers.items c.hear-line.new.servers inside.servers.ok.0 in
    let routers = length_refill inside.routers.len inside.routers.items c.hear-line.new.routers inside.routers.ok.0 in
    (c.self.invariant.0, omega (arith, servers, routers, inside.servers.ok.0, inside.routers.ok.0, c.self.invariant.1))

pub returns : goal.returns
returns g c =
    let inside = c.self.inside in
    let w : WorldState = record { sites = inside.sites; addresses = inside.addresses.items; clock = inside.clock; bag = inside.bag.items; servers = inside.servers.items; routers = inside.routers.items } in
    let count : length inside.bag.items ≡ c.len.result = omega (arith, c.len.ensures, c.make_room.ensures.len, inside.bag.ok.0) in
    let servers = ap length c.deref_mut.ensures.value in
    let routers = ap length c.deref_mut-2.ensures.value in
    let all_servers : inside.servers.len ≡ length c.hear-line.new.servers = omega (arith, servers, c.hear-line.auto.servers, inside.servers.ok.0) in
    let all_routers : inside.routers.len ≡ length c.hear-line.new.routers = omega (arith, routers, c.hear-line.auto.routers, inside.routers.ok.0) in
    let possible = rw (← c.self.view_is) at c.in_ok-check_node.ensures in
    rw (← c.self.view_is)
    (event_taken _ _ _ w _ _ c.hear-line.result.0 (sym possible)
    (arrived _ w c.args.to Done c.args.from c.args.bytes.now c.hear-line.result.0 c.hear-line.result.1 c.hear-line.new.servers c.hear-line.new.routers inside.servers.len inside.routers.len c.post_reply.new.bag.items all_servers all_routers
    (c.post_reply.ensures ∙ (λ i. c.make_room.ensures.items i ++ datagram_to (c.address-address.ensures i) c.args.from c.hear-line.result.1))
    (c.hear-line.ensures.hears w (sym c.deref_mut.ensures.value) (sym c.deref_mut-2.ensures.value) refl count))
    c.hear-line.ensures.tells)

pub post_reply-requires : goal.post_reply-requires
post_reply-requires g c = (let room = c.in_ok-make_room.ensures.ok in omega (arith, room))

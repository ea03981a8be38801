use Rattle.std.proofs.Common.{refl, sym}
use Rattle.std.proofs.lemmas.Option.{slice_get_read}
use Rattle.lisp_refinement.specs.World.{WorldState}
use Rattle.lisp_world.proofs.Keys.{unknown_key}
use Rattle.lisp_world.proofs.world.World.place_and_key.Goals as goal

pub returns-in-Some-clause-found : goal.returns-in-Some-clause-found
returns-in-Some-clause-found g c =
    let place = rw (← c.self.view_is) at c.in_ok-place.ensures.place in
    let none = rw (← c.self.view_is) at c.in_ok-place.ensures.fault in
    rw (← c.self.view_is)
    (record {
      is_place = place;
      none = sym none;
      node = c.index.result.now;
      there = slice_get_read c.self.inside.routers.items _ c.in_ok-place.place c.index.result.now refl place.1 c.index.ensures;
      known = rw (← c.me-me.ensures, c.copy.ensures) (sym c.in-Some.ensures);
    })

pub returns-in-None-clause-fault : goal.returns-in-None-clause-fault
returns-in-None-clause-fault g c =
    let place = rw (← c.self.view_is) at c.in_ok-place.ensures.place in
    let none = rw (← c.self.view_is) at c.in_ok-place.ensures.fault in
    let inside = c.self.inside in
    let w : WorldState = record { sites = inside.sites; addresses = inside.addresses.items; clock = inside.clock; bag = inside.bag.items; servers = inside.servers.items; routers = inside.routers.items } in
    rw (← c.self.view_is)
    (unknown_key w c.args.router c.args.key c.in_ok-place.place c.index.result.now place
    (slice_get_read c.self.inside.routers.items _ c.in_ok-place.place c.index.result.now refl place.1 c.index.ensures) (sym none)
    (rw (← c.me-me.ensures) (sym c.in-None.ensures)))

use Rattle.std.proofs.Common.{◌∙◌, refl, inl, arith}
use Rattle.lisp_refinement.specs.World.{WorldState}
use Rattle.lisp_world.specs.Faults.{used_before_loss}
use Rattle.lisp_world.proofs.Keys.{no_key_fault, rotated, used_key, used_there}
use Rattle.lisp_world.proofs.Taking.{event_taken, rotated_tells}
use Rattle.lisp_world.proofs.world.World.rotate.Goals as goal

pub returns-then-used_before_loss : goal.returns-then-used_before_loss
returns-then-used_before_loss g c =
    let found = rw (← c.self.view_is) at c.in_ok-place.ensures.found in
    let inside = c.self.inside in
    let w : WorldState = record { sites = inside.sites; addresses = inside.addresses.items; clock = inside.clock; bag = inside.bag.items; servers = inside.servers.items; routers = inside.routers.items } in
    rw (← c.self.view_is)
    (refl, inl (used_key w c.args.router c.args.key c.in_ok-place.place c.in_ok-place.secret found c.index.result.now c.index.ensures (used_before_loss c.args.key) _ c.used_before_loss.ensures c.if-used_before_loss.true))

pub returns : goal.returns
returns g c =
    let found = rw (← c.self.view_is) at c.in_ok-place.ensures.found in
    let inside = c.self.inside in
    let w : WorldState = record { sites = inside.sites; addresses = inside.addresses.items; clock = inside.clock; bag = inside.bag.items; servers = inside.servers.items; routers = inside.routers.items } in
    let place = c.in_ok-place.place in
    let secret = c.in_ok-place.secret in
    let was_used = used_before_loss c.args.key in
    let unused = used_there w c.args.router c.args.key place secret found c.index.result.now c.index.ensures was_used _ c.used_before_loss.ensures ∙ c.if-used_before_loss.false in
    let e = c.rotate-answer.ensures in
    rw (← c.self.view_is, c.rotated.ensures)
    (event_taken _ _ (Unit {0}) w _ _ _ (no_key_fault w c.args.router c.args.key place secret found was_used unused)
    (rotated w c.args.router c.args.key place secret found c.index_mut.result.now c.index_mut.ensures.value c.rotate-answer.new.self (omega arith) c.args.fate c.rotate-answer.result unused e.up e.down)
    (rotated_tells _ _ c.args.router c.args.key c.rotate-answer.result e.store_memory))

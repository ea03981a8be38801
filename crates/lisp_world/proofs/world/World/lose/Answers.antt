use Rattle.std.proofs.Common.{◌∙◌, Option, List, refl, inl, subst, arith}
use Rattle.lisp_records.specs.Record.{MapRecordValue}
use Rattle.lisp_refinement.specs.{World.WorldState, Calls.NodeLoses}
use Rattle.lisp_world.specs.Faults.{used_ever}
use Rattle.lisp_world.proofs.Keys.{lost, no_key_fault, used_key, used_there}
use Rattle.lisp_world.proofs.Taking.{out_of_memory, lost_tells, event_taken}
use Rattle.lisp_world.proofs.world.World.lose.Goals as goal

pub returns-then-used_ever : goal.returns-then-used_ever
returns-then-used_ever g c =
    let found = rw (← c.self.view_is) at c.in_ok-place.ensures.found in
    let inside = c.self.inside in
    let w : WorldState = record { sites = inside.sites; addresses = inside.addresses.items; clock = inside.clock; bag = inside.bag.items; servers = inside.servers.items; routers = inside.routers.items } in
    rw (← c.self.view_is)
    (refl, inl (used_key w c.args.router c.args.key c.in_ok-place.place c.in_ok-place.secret found c.index.result.now c.index.ensures (used_ever c.args.key) _ c.used_ever.ensures c.if-used_ever.true))

pub returns-in_err-db : goal.returns-in_err-db
returns-in_err-db g c =
    let found = rw (← c.self.view_is) at c.in_ok-place.ensures.found in
    let inside = c.self.inside in
    let w : WorldState = record { sites = inside.sites; addresses = inside.addresses.items; clock = inside.clock; bag = inside.bag.items; servers = inside.servers.items; routers = inside.routers.items } in
    let was_used = used_ever c.args.key in
    let unused = used_there w c.args.router c.args.key c.in_ok-place.place c.in_ok-place.secret found c.index.result.now c.index.ensures was_used _ c.used_ever.ensures ∙ c.if-used_ever.false in
    rw (← c.self.view_is)
    (out_of_memory _ _ w w _ _ c.from_residual-in_err-db.ensures.1 (no_key_fault w c.args.router c.args.key c.in_ok-place.place c.in_ok-place.secret found was_used unused) c.in_err-db.ensures.memory refl)

pub returns : goal.returns
returns g c =
    let found = rw (← c.self.view_is) at c.in_ok-place.ensures.found in
    let inside = c.self.inside in
    let w : WorldState = record { sites = inside.sites; addresses = inside.addresses.items; clock = inside.clock; bag = inside.bag.items; servers = inside.servers.items; routers = inside.routers.items } in
    let place = c.in_ok-place.place in
    let secret = c.in_ok-place.secret in
    let was_used = used_ever c.args.key in
    let unused = used_there w c.args.router c.args.key place secret found c.index.result.now c.index.ensures was_used _ c.used_ever.ensures ∙ c.if-used_ever.false in
    let e = c.lose-answer.ensures in
    rw (← c.self.view_is, c.loss_line.ensures)
    (event_taken _ _ (Unit {0}) w _ _ _ (no_key_fault w c.args.router c.args.key place secret found was_used unused) (
      c.in_ok-db.ensures.fits,
      lost w c.args.router c.args.key place secret found c.index_mut.result.now c.index_mut.ensures.value c.lose-answer.new.self (omega arith) c.args.db.now c.lose-answer.result unused
          (subst (λ (given : Option (List MapRecordValue)). NodeLoses c.index_mut.result.now c.lose-answer.new.self c.args.key secret given inside.clock c.lose-answer.result) c.in_ok-db.ensures.equal e.loses),
    )
    (lost_tells _ _ c.args.router c.args.key c.lose-answer.result e.memory e.store_memory))

use Rattle.std.proofs.Common.{◌+◌, ◌∙◌, Bool, Some, None, inl, refl, sym, ap, arith}
use Rattle.std.proofs.lemmas.Bool.{lt-ltb, le-ltb}
use Rattle.std.specs.Prelude.{if◌then◌else◌}
use Rattle.lisp_records.specs.Moment.{max_moment}
use Rattle.lisp_model.specs.declared.world_fault.WorldFault.TheVariants.{Clock}
use Rattle.lisp_world.proofs.Taking.{event_taken, rewritten}
use Rattle.lisp_world.proofs.world.World.tick.Goals as goal

pub returns-then-self-ms : goal.returns-then-self-ms
returns-then-self-ms g c =
    (refl, inl (rw (← c.self.view_is, lt-ltb max_moment (c.self.inside.clock + c.args.ms) (omega (arith, c.if-self-ms.true, c.self.invariant.0))) refl))

pub invariant_of-self : goal.invariant_of-self
invariant_of-self g c =
    let count = rw c.deref_mut.ensures.value at c.expire_all.ensures.count in
    rw (rewritten c.self.inside.servers.len c.self.inside.servers.items c.expire_all.new.servers (c.self.inside.servers.ok.0 ∙ sym count), count)
    (omega (arith, c.if-self-ms.false, c.self.invariant.0), c.self.invariant.1)

pub returns : goal.returns
returns g c =
    let count = rw c.deref_mut.ensures.value at c.expire_all.ensures.count in
    let possible = ap (λ (late : Bool). if late then Some Clock else None) (le-ltb max_moment (c.self.inside.clock + c.args.ms) (omega (arith, c.if-self-ms.false, c.self.invariant.0))) in
    rw (← c.self.view_is, rewritten c.self.inside.servers.len c.self.inside.servers.items c.expire_all.new.servers (c.self.inside.servers.ok.0 ∙ sym count))
    (event_taken _ _ (Unit {0}) _ _ _ _ possible (record {
      bound = omega (arith, c.if-self-ms.false, c.self.invariant.0);
      count = count;
      each = rw c.deref_mut.ensures.value at c.expire_all.ensures.each;
      left = refl;
      said = refl;
    }) tt)

use Rattle.std.proofs.Common.{◌≡◌, true, refl, sym, arith}
use Rattle.std.proofs.lemmas.Option.{slice_get_read}
use Rattle.std.proofs.lemmas.List.Edits.{length-remove}
use Rattle.lisp_queue.specs.Kind.{is_of}
use Rattle.lisp_queue.proofs.Kept.{all_remove}
use Rattle.lisp_queue.proofs.queue.Queue.take_at.Goals as goal

pub invariant_of-self : goal.invariant_of-self
invariant_of-self g c =
    let within = rw (sym c.self.view_is) at c.requires in
    let few = c.self.invariant.2 in
    let shorter = length-remove c.self.inside.waiting.items c.args.place within in (
      rw c.remove.ensures.capacity c.self.invariant.0,
      c.self.invariant.1,
      rw c.remove.ensures.items (omega (arith, few, shorter)),
      c.self.invariant.3,
      rw c.remove.ensures.items (all_remove (λ w. is_of c.self.inside.kind w.bytes ≡ true) c.self.inside.waiting.items c.args.place within c.self.invariant.4),
    )

pub returns-clause-taken : goal.returns-clause-taken
returns-clause-taken g c = rw (sym c.self.view_is) (slice_get_read c.self.inside.waiting.items _ c.args.place c.remove.result refl (rw (sym c.self.view_is) at c.requires) c.remove.ensures.value)

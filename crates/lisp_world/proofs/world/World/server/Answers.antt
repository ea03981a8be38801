use Rattle.std.proofs.Common.{Some, ap, sym, refl, ◌∙◌}
use Rattle.std.proofs.lemmas.Bool.{ltb-true}
use Rattle.std.proofs.lemmas.Option.{slice_get_read, slice_get_past}
use Rattle.std.specs.Option.{option_map}
use Rattle.lisp_refinement.specs.World.{ServerNodeState}
use Rattle.lisp_world.proofs.world.World.server.Goals as goal

pub returns : goal.returns
returns g c =
    let found = rw c.deref.ensures.value at c.in_ok-get.ensures.lookup in
    rw (← c.self.view_is)
    (ap Some c.core.ensures ∙ ap (option_map (λ (n : ServerNodeState). n.core)) (sym (slice_get_read c.self.inside.servers.items _ _ c.in_ok-get.field-0.now refl (ltb-true _ _ (sym found.0)) found.1)))

pub returns-in_err-get : goal.returns-in_err-get
returns-in_err-get g c =
    let past = rw c.deref.ensures.value at c.in_err-get.ensures.lookup.3 in
    rw (← c.self.view_is)
    (rw c.from_residual.ensures (ap (option_map (λ (n : ServerNodeState). n.core)) (sym (slice_get_past c.self.inside.servers.items _ past))))

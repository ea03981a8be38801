use Rattle.std.proofs.Common.{Some, arith, length, ◌∙◌, sym, ap, refl}
use Rattle.std.proofs.lemmas.Bool.{le-ltb, ltb-true}
use Rattle.std.proofs.lemmas.Option.{slice_get_read, slice_get_past}
use Rattle.std.specs.Option.{option_map}
use Rattle.lisp_refinement.specs.World.{RouterNodeState}
use Rattle.lisp_world.proofs.world.World.store.Goals as goal

pub returns : goal.returns
returns g c =
    let found = rw (c.deref-2.ensures.value, c.len-2.ensures, c.self.inside.servers.ok.0) at c.in_ok-get-2.ensures.lookup in
    rw (← c.self.view_is, le-ltb c.args.node (length c.self.inside.servers.items) (omega (arith, c.if-node-len.false, c.len.ensures, c.self.inside.servers.ok.0)))
    (ap Some c.store-2.ensures ∙ ap (option_map (λ (n : RouterNodeState). n.store)) (sym (slice_get_read c.self.inside.routers.items _ _ c.in_ok-get-2.field-0.now refl (ltb-true _ _ (sym found.0)) found.1)))

pub returns-in_err-get-2 : goal.returns-in_err-get-2
returns-in_err-get-2 g c =
    let past = rw (c.deref-2.ensures.value, c.len-2.ensures, c.self.inside.servers.ok.0) at c.in_err-get-2.ensures.lookup.3 in
    rw (← c.self.view_is, le-ltb c.args.node (length c.self.inside.servers.items) (omega (arith, c.if-node-len.false, c.len.ensures, c.self.inside.servers.ok.0)))
    (rw c.from_residual-in_err-get-2.ensures (ap (option_map (λ (n : RouterNodeState). n.store)) (sym (slice_get_past c.self.inside.routers.items _ past))))

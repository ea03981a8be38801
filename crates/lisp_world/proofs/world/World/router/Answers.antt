use Rattle.std.proofs.Common.{arith, length, ◌∙◌, sym, ap, refl}
use Rattle.std.proofs.lemmas.Bool.{le-ltb, ltb-true}
use Rattle.std.proofs.lemmas.Option.{slice_get_read, slice_get_past}
use Rattle.std.specs.Option.{option_and_then}
use Rattle.lisp_refinement.specs.{Nodes.up_in, World.RouterNodeState}
use Rattle.lisp_world.proofs.world.World.router.Goals as goal

pub returns : goal.returns
returns g c =
    let found = rw (c.deref.ensures.value, c.len-2.ensures, c.self.inside.servers.ok.0) at c.in_ok-get.ensures.lookup in
    rw (← c.self.view_is, le-ltb c.args.node (length c.self.inside.servers.items) (omega (arith, c.if-node-len.false, c.len.ensures, c.self.inside.servers.ok.0)))
    (c.etr.ensures ∙ ap (option_and_then (λ (n : RouterNodeState). up_in n.core)) (sym (slice_get_read c.self.inside.routers.items _ _ c.in_ok-get.field-0.now refl (ltb-true _ _ (sym found.0)) found.1)))

pub returns-in_err-get : goal.returns-in_err-get
returns-in_err-get g c =
    let past = rw (c.deref.ensures.value, c.len-2.ensures, c.self.inside.servers.ok.0) at c.in_err-get.ensures.lookup.3 in
    rw (← c.self.view_is, le-ltb c.args.node (length c.self.inside.servers.items) (omega (arith, c.if-node-len.false, c.len.ensures, c.self.inside.servers.ok.0)))
    (rw c.from_residual.ensures (ap (option_and_then (λ (n : RouterNodeState). up_in n.core)) (sym (slice_get_past c.self.inside.routers.items _ past))))

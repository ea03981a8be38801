use Rattle.std.proofs.Common.{◌∙◌}
use Rattle.lisp_sites.proofs.Placed.{is_placed}
use Rattle.lisp_sites.proofs.nodes.Nodes.place.Goals as goal

pub returns : goal.returns
returns g c = rw (← c.self.view_is) (c.copied.ensures ∙ c.get.ensures.value ∙ is_placed g.N.Named.name c.self.inside.places c.self.inside.items.items c.args.name.now c.self.invariant)

use Rattle.std.proofs.Common.{◌∙◌}
use Rattle.lisp_sites.proofs.Keys.{is_key}
use Rattle.lisp_sites.proofs.keyed.Keyed.has.Goals as goal

pub returns : goal.returns
returns g c = rw (← c.self.view_is) (c.contains.ensures ∙ is_key _ _ g.T.HasKey.key c.self.inside.keys c.self.inside.items.items c.args.key.now c.self.invariant)

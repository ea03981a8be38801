use Rattle.lisp_sites.proofs.Keys.{add_keeps}
use Rattle.lisp_sites.proofs.keyed.Keyed.push.Goals as goal

pub invariant_of-self : goal.invariant_of-self
invariant_of-self g c =
    add_keeps _ _ g.T.HasKey.key g.met.T.Key.Ord.matches_eq c.add.result c.self.inside.keys c.add.new.keys c.self.inside.items.items c.add.new.items.items c.args.item c.key.result c.key.ensures
    c.add.ensures.added c.add.ensures.same c.self.invariant

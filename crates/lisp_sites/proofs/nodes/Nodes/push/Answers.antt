use Rattle.lisp_sites.proofs.nodes.Nodes.push.Goals as goal

pub invariant_of-self : goal.invariant_of-self
invariant_of-self g c = c.add.ensures.placed c.self.invariant (rw (← c.self.view_is) at c.requires)

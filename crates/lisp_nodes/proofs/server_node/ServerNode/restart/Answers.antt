use Rattle.lisp_nodes.proofs.server_node.ServerNode.restart.Goals as goal

pub returns-clause-crashes : goal.returns-clause-crashes
returns-clause-crashes g c = rw (← c.self.view_is) (record { narrows = c.restart.ensures.narrows; picks = c.restart.ensures.picks; proceeds = c.restart.ensures.proceeds })

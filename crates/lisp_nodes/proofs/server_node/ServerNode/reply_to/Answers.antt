use Rattle.lisp_nodes.proofs.NodeCalls.{node_replies}
use Rattle.lisp_nodes.proofs.server_node.ServerNode.reply_to.Goals as goal

pub returns-clause-reply : goal.returns-clause-reply
returns-clause-reply g c = rw (← c.self.view_is) (node_replies _ _ _ _ _ c.reply_to.result c.is_starting-starting.ensures c.reply_to.ensures.one_each c.reply_to.ensures.reply)

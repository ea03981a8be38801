use Rattle.lisp_embedded.proofs.Replies.{sends_the_same}
use Rattle.lisp_embedded.proofs.laws.replies_are_those_of_a_node.Goals as goal

pub returns : goal.returns
returns g c = sends_the_same _

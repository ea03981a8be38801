use Rattle.lisp_replies.proofs.AlikeLaws.{replies_are_alike}
use Rattle.lisp_replies.proofs.laws.replies_are_alike.Goals as goal

pub returns : goal.returns
returns c c' = replies_are_alike _

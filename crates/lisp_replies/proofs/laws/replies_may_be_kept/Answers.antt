use Rattle.lisp_replies.proofs.KeptLaws.{replies_may_be_kept}
use Rattle.lisp_replies.proofs.laws.replies_may_be_kept.Goals as goal

pub returns : goal.returns
returns c c' = replies_may_be_kept _

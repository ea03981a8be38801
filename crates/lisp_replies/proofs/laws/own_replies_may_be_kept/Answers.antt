use Rattle.lisp_replies.proofs.OwnWalkLaws.{own_replies_may_be_kept}
use Rattle.lisp_replies.proofs.laws.own_replies_may_be_kept.Goals as goal

pub returns : goal.returns
returns g c = own_replies_may_be_kept _

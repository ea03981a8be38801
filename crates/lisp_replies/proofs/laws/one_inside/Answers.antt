use Rattle.lisp_replies.proofs.SeenLaws.{one_inside}
use Rattle.lisp_replies.proofs.laws.one_inside.Goals as goal

pub returns : goal.returns
returns c = one_inside

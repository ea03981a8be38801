use Rattle.lisp_registration.proofs.Sending.{answer_told}
use Rattle.lisp_registration.proofs.laws.answers_of_routers_are_told_whole.Goals as goal

pub returns : goal.returns
returns c = answer_told

use Rattle.lisp_refinement.proofs.Taking.{taking_agrees}
use Rattle.lisp_refinement.proofs.laws.taking_agrees.Goals as goal

pub returns : goal.returns
returns g c = taking_agrees _

use Rattle.lisp_deployment.proofs.Living.{lost_turns_are_cuts}
use Rattle.lisp_deployment.proofs.laws.lost_turns_are_cuts.Goals as goal

pub returns : goal.returns
returns g c = lost_turns_are_cuts _

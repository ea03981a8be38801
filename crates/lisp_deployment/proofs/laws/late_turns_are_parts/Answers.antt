use Rattle.lisp_deployment.proofs.Deploying.{late_turns_are_parts}
use Rattle.lisp_deployment.proofs.laws.late_turns_are_parts.Goals as goal

pub returns : goal.returns
returns g c = late_turns_are_parts _

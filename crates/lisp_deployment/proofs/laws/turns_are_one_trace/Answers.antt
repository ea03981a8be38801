use Rattle.lisp_deployment.proofs.Deploying.{turns_are_one_trace}
use Rattle.lisp_deployment.proofs.laws.turns_are_one_trace.Goals as goal

pub returns : goal.returns
returns g c = turns_are_one_trace _

use Rattle.lisp_deployment.proofs.Received.{unforged_deployments_are_clean}
use Rattle.lisp_deployment.proofs.laws.unforged_deployments_are_clean.Goals as goal

pub returns : goal.returns
returns g c = unforged_deployments_are_clean _

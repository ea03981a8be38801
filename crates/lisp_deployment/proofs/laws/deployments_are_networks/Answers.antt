use Rattle.lisp_deployment.proofs.Opening.{deployments_are_networks}
use Rattle.lisp_deployment.proofs.laws.deployments_are_networks.Goals as goal

pub returns : goal.returns
returns g c = deployments_are_networks _

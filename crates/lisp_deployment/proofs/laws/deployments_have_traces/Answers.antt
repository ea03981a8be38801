use Rattle.lisp_deployment.proofs.Deeds.{deployments_have_traces}
use Rattle.lisp_deployment.proofs.laws.deployments_have_traces.Goals as goal

pub returns : goal.returns
returns g c = deployments_have_traces _

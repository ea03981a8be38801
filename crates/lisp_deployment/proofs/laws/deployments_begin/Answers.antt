use Rattle.lisp_deployment.proofs.Opening.{deployments_begin}
use Rattle.lisp_deployment.proofs.laws.deployments_begin.Goals as goal

pub returns : goal.returns
returns c = deployments_begin

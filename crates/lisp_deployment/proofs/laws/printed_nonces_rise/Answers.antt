use Rattle.lisp_deployment.proofs.Printed.{printed_nonces_rise}
use Rattle.lisp_deployment.proofs.laws.printed_nonces_rise.Goals as goal

pub returns : goal.returns
returns g c = printed_nonces_rise _

use Rattle.lisp_deployment.proofs.Told.{counted_lines_were_accepted}
use Rattle.lisp_deployment.proofs.laws.counted_lines_were_accepted.Goals as goal

pub returns : goal.returns
returns g c = counted_lines_were_accepted _

use Rattle.lisp_deployment.proofs.Told.{held_rows_agree}
use Rattle.lisp_deployment.proofs.laws.held_rows_agree.Goals as goal

pub returns : goal.returns
returns g c = held_rows_agree _

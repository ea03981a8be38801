use Rattle.lisp_deployment.proofs.Told.{held_rows_were_sent}
use Rattle.lisp_deployment.proofs.laws.held_rows_were_sent.Goals as goal

pub returns : goal.returns
returns g c = held_rows_were_sent _

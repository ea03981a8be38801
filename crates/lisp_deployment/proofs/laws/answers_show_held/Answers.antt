use Rattle.lisp_deployment.proofs.Shown.{answers_show_held}
use Rattle.lisp_deployment.proofs.laws.answers_show_held.Goals as goal

pub returns : goal.returns
returns g c = answers_show_held _

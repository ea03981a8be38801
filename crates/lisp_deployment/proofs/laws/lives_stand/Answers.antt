use Rattle.lisp_deployment.proofs.Living.{lives_stand}
use Rattle.lisp_deployment.proofs.laws.lives_stand.Goals as goal

pub returns : goal.returns
returns g c = lives_stand _

use Rattle.lisp_deployment.proofs.Budgeting.{replies_keep_the_budget}
use Rattle.lisp_deployment.proofs.laws.replies_keep_the_budget.Goals as goal

pub returns : goal.returns
returns g c = replies_keep_the_budget _

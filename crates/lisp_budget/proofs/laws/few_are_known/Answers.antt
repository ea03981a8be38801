use Rattle.lisp_budget.proofs.BudgetLaws.{few_are_known}
use Rattle.lisp_budget.proofs.laws.few_are_known.Goals as goal

pub returns : goal.returns
returns c = few_are_known

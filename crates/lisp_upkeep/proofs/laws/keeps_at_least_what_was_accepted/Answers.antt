use Rattle.lisp_upkeep.proofs.Refused.{keeps_at_least}
use Rattle.lisp_upkeep.proofs.laws.keeps_at_least_what_was_accepted.Goals as goal

pub returns : goal.returns
returns c = keeps_at_least

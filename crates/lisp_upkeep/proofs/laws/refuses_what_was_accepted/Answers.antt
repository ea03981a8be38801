use Rattle.lisp_upkeep.proofs.Refused.{refuses}
use Rattle.lisp_upkeep.proofs.laws.refuses_what_was_accepted.Goals as goal

pub returns : goal.returns
returns c = refuses

use Rattle.lisp_upkeep.proofs.Refused.{lowers}
use Rattle.lisp_upkeep.proofs.laws.lowers_nothing.Goals as goal

pub returns : goal.returns
returns c = lowers

use Rattle.lisp_turns.proofs.BeginningLater.{beginnings_stand}
use Rattle.lisp_turns.proofs.laws.beginnings_stand.Goals as goal

pub returns : goal.returns
returns c = beginnings_stand

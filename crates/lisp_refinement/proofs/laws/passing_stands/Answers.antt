use Rattle.lisp_refinement.proofs.Passing.{passing_stands}
use Rattle.lisp_refinement.proofs.laws.passing_stands.Goals as goal

pub returns : goal.returns
returns c = passing_stands

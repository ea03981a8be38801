use Rattle.lisp_refinement.proofs.Passing.{idling_passes}
use Rattle.lisp_refinement.proofs.laws.idling_passes.Goals as goal

pub returns : goal.returns
returns c = idling_passes

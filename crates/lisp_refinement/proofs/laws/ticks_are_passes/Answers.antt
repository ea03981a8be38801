use Rattle.lisp_refinement.proofs.Passing.{ticks_are_passes}
use Rattle.lisp_refinement.proofs.laws.ticks_are_passes.Goals as goal

pub returns : goal.returns
returns c = ticks_are_passes

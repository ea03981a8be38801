use Rattle.lisp_refinement.proofs.Headlines.{replies_are_promised}
use Rattle.lisp_refinement.proofs.replied.replies_are_promised.Goals as goal

pub returns : goal.returns
returns g c = replies_are_promised _

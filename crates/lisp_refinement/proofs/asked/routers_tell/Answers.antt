use Rattle.lisp_refinement.proofs.Asking.{routers_tell}
use Rattle.lisp_refinement.proofs.asked.routers_tell.Goals as goal

pub returns : goal.returns
returns c = routers_tell

use Rattle.lisp_refinement.proofs.Asking.{servers_tell}
use Rattle.lisp_refinement.proofs.asked.servers_tell.Goals as goal

pub returns : goal.returns
returns g c = servers_tell _

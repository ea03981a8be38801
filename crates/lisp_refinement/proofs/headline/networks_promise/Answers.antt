use Rattle.lisp_refinement.proofs.Headlines.{networks_promise}
use Rattle.lisp_refinement.proofs.headline.networks_promise.Goals as goal

pub returns : goal.returns
returns c = networks_promise

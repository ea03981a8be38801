use Rattle.lisp_mapping.proofs.ListedLaws.{routers_stay_listed}
use Rattle.lisp_mapping.proofs.laws.routers_stay_listed.Goals as goal

pub returns : goal.returns
returns g c = routers_stay_listed _

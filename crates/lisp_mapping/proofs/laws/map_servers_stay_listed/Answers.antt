use Rattle.lisp_mapping.proofs.ListedLaws.{map_servers_stay_listed}
use Rattle.lisp_mapping.proofs.laws.map_servers_stay_listed.Goals as goal

pub returns : goal.returns
returns g c = map_servers_stay_listed _

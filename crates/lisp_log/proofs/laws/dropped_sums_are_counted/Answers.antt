use Rattle.lisp_log.proofs.DroppedLaws.{dropped_sums_are_counted}
use Rattle.lisp_log.proofs.laws.dropped_sums_are_counted.Goals as goal

pub returns : goal.returns
returns g c = dropped_sums_are_counted g.A.Memory.may_refuse

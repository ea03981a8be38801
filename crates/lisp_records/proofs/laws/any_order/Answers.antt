use Rattle.lisp_records.proofs.DatabaseLaws.{any_order}
use Rattle.lisp_records.proofs.laws.any_order.Goals as goal

pub returns : goal.returns
returns c = any_order

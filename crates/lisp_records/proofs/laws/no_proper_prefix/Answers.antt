use Rattle.lisp_records.proofs.RecordLaws.{no_proper_prefix}
use Rattle.lisp_records.proofs.laws.no_proper_prefix.Goals as goal

pub returns : goal.returns
returns c = no_proper_prefix

use Rattle.lisp_texts.proofs.RecordLaws.{one_record}
use Rattle.lisp_texts.proofs.laws.one_record.Goals as goal

pub returns : goal.returns
returns c = one_record

use Rattle.lisp_records.proofs.PartLaws.{each_record_is_in_one_part}
use Rattle.lisp_records.proofs.laws.each_record_is_in_one_part.Goals as goal

pub returns : goal.returns
returns c = each_record_is_in_one_part

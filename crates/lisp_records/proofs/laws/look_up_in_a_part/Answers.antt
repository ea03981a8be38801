use Rattle.lisp_records.proofs.PartLaws.{look_up_in_a_part}
use Rattle.lisp_records.proofs.laws.look_up_in_a_part.Goals as goal

pub returns : goal.returns
returns c = look_up_in_a_part

use Rattle.lisp_records.proofs.PartLaws.{part_look_up}
use Rattle.lisp_records.proofs.laws.part_look_up.Goals as goal

pub returns : goal.returns
returns c = part_look_up

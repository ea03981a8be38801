use Rattle.std.proofs.Common.{refl}
use Rattle.lisp_model.proofs.Examples.LegalRows.{six_steps_legal}
use Rattle.lisp_model.proofs.laws.story.Goals as goal
use Rattle.lisp_records.specs.Parts.{cut, cut_from}
use Rattle.lisp_records.specs.Written.{written}

pub returns : goal.returns
unfolding cut cut_from written
returns c = record { legal = six_steps_legal; row = refl; counted = refl; forgotten = refl; sent = refl }

use Rattle.lisp_model.proofs.RowLaws as laws
use Rattle.lisp_model.proofs.laws.rows_are_held.Goals as goal

pub returns : goal.returns
returns c = laws.rows_are_held

use Rattle.lisp_upkeep.proofs.Lines.{lines_are_of_one_nonce}
use Rattle.lisp_upkeep.proofs.laws.lines_are_of_one_nonce.Goals as goal

pub returns : goal.returns
returns c = lines_are_of_one_nonce

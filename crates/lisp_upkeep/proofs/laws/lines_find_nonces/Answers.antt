use Rattle.lisp_upkeep.proofs.Lines.{lines_find_nonces}
use Rattle.lisp_upkeep.proofs.laws.lines_find_nonces.Goals as goal

pub returns : goal.returns
returns c = lines_find_nonces

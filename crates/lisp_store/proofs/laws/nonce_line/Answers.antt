use Rattle.lisp_store.proofs.LineLaws as laws
use Rattle.lisp_store.proofs.laws.nonce_line.Goals as goal

pub returns : goal.returns
returns c = laws.nonce_line

use Rattle.lisp_store.proofs.KeptFiles as laws
use Rattle.lisp_store.proofs.laws.files_keep_nonces.Goals as goal

pub returns : goal.returns
returns c = laws.files_keep

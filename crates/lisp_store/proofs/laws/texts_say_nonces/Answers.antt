use Rattle.lisp_store.proofs.KeptFiles as laws
use Rattle.lisp_store.proofs.laws.texts_say_nonces.Goals as goal

pub returns : goal.returns
returns c = laws.texts_say

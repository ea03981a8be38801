use Rattle.lisp_store.proofs.PairNames as laws
use Rattle.lisp_store.proofs.laws.names_have_their_form.Goals as goal

pub returns : goal.returns
returns c = laws.names_have_their_form

use Rattle.lisp_store.proofs.PairNames as laws
use Rattle.lisp_store.proofs.laws.names_are_of_one_pair.Goals as goal

pub returns : goal.returns
returns c = laws.one_pair

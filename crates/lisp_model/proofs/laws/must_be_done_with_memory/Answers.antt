use Rattle.lisp_model.proofs.Sound.{must_with_memory}
use Rattle.lisp_model.proofs.laws.must_be_done_with_memory.Goals as goal

pub returns : goal.returns
returns c = must_with_memory ⊥ ⊥ (λ never. never) (λ never. never)

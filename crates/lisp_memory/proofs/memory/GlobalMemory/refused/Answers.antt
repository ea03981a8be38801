use Rattle.lisp_memory.specs.Refusal.Witness.{it_may}
use Rattle.lisp_memory.proofs.memory.GlobalMemory.refused.Goals as goal

pub returns : goal.returns
returns c = record { refused = it_may }

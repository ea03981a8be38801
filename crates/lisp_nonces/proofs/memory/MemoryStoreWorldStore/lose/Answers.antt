use Rattle.std.proofs.Common.{[], None, refl, arith}
use Rattle.lisp_nonces.proofs.Entries.{kept_of_entries, none}
use Rattle.lisp_nonces.proofs.memory.MemoryStoreWorldStore.lose.Goals as goal

pub returns-clause-some : goal.returns-clause-some
returns-clause-some g c q = rw (c.clear.ensures.items, kept_of_entries [] q, none q) (None, (0, omega arith, refl))

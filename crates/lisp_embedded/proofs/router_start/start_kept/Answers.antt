use Rattle.std.proofs.Common.{refl}
use Rattle.lisp_nonces.specs.Memory.{memory_state}
use Rattle.lisp_embedded.proofs.Routers.{start_memory}
use Rattle.lisp_embedded.proofs.router_start.start_kept.Goals as goal

pub returns-clause-memory : goal.returns-clause-memory
returns-clause-memory g c = start_memory (memory_state c.in_ok-store.store) c.in-Err.field-0 refl c.in_ok-store.ensures.calm c.in-Err.ensures.memory c.in-Err.ensures.store_memory c.in-Err.ensures.load_fails

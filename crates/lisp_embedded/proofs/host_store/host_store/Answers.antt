use Rattle.std.proofs.Common.{None, refl}
use Rattle.lisp_nonces.specs.Memory.{empty_memory, memory_state}
use Rattle.lisp_nonces.specs.declared.pair.Pair.{Pair}
use Rattle.lisp_nonces.proofs.Kept.{kept_at-empty}
use Rattle.lisp_embedded.specs.Host.{KeepsPassed}
use Rattle.lisp_embedded.proofs.host_store.host_store.Goals as goal

-- of each pair an empty store keeps nothing
nothing_kept : (pair : Pair) → KeepsPassed pair None (memory_state empty_memory)
nothing_kept pair = record { honest = refl; keeps = kept_at-empty pair }

pub returns-in_default-clause-keeps : goal.returns-in_default-clause-keeps
returns-in_default-clause-keeps g c = rw (c.in_default.is, c.new-store.ensures) (nothing_kept c.args.pair.now)

-- Stores in memory that were just made.
use Rattle.std.specs.FinMap.{empty}
use Rattle.lisp_nonces.specs.Memory.{MemoryStoreState}
use Rattle.lisp_nonces.specs.declared.fate.Fate.TheVariants.{Done}

-- such a store keeps nothing, and none of its calls failed
abbrev pub fresh : MemoryStoreState
fresh = record { kept = empty; faults = 0; fate = Done }

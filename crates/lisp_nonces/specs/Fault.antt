-- The numbers of the faults of a store.
use Rattle.std.specs.Prelude.{ℕ}
use Rattle.lisp_nonces.specs.declared.fault.StoreFault.{StoreFault}
use Rattle.lisp_nonces.specs.declared.fault.StoreFault.TheVariants.{Device, Damaged, OutOfMemory}

abbrev pub fault_number : StoreFault → ℕ
fault_number Device = 30
fault_number Damaged = 31
fault_number OutOfMemory = 32

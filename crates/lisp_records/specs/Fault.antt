-- The numbers of the faults of a record, and of a database.
use Rattle.std.specs.Prelude.{ℕ}
use Rattle.lisp_records.specs.declared.fault.RecordFault.{RecordFault}
use Rattle.lisp_records.specs.declared.fault.RecordFault.TheVariants.{Short, Afi, Mask, OutOfMemory}
use Rattle.lisp_records.specs.declared.database.DatabaseFault.{DatabaseFault}
use Rattle.lisp_records.specs.declared.database.DatabaseFault.TheVariants.{RepeatedPrefix, TooLarge}

abbrev pub fault_number : RecordFault → ℕ
fault_number Short = 1
fault_number Afi = 2
fault_number Mask = 3
fault_number OutOfMemory = 9

abbrev pub database_fault_number : DatabaseFault → ℕ
database_fault_number RepeatedPrefix = 4
database_fault_number TooLarge = 5

-- The faults of a message: their numbers, and those that come from a record.
use Rattle.std.specs.Prelude.{ℕ}
use Rattle.lisp_records.specs.declared.fault.RecordFault.{RecordFault}
use Rattle.lisp_records.specs.declared.fault.RecordFault.TheVariants as records
use Rattle.lisp_messages.specs.declared.fault.ReadFault.{ReadFault}
use Rattle.lisp_messages.specs.declared.fault.ReadFault.TheVariants.{Short, OutOfMemory, Kind, Algorithm, AuthLength, NoIds, Trailing, Record}

abbrev pub fault_number : ReadFault → ℕ
fault_number Short = 1
fault_number OutOfMemory = 9
fault_number Kind = 10
fault_number Algorithm = 11
fault_number AuthLength = 12
fault_number NoIds = 13
fault_number Trailing = 14
fault_number (Record _ _) = 15

-- a record's fault, with its place among the records; out of memory has none
abbrev pub fault_at : ℕ → RecordFault → ReadFault
fault_at i records.OutOfMemory = OutOfMemory
fault_at i f = Record i f

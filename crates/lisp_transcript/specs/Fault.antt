-- Why a message isn't read, and at which byte.
use Rattle.std.specs.Prelude.{ℕ, zero, suc, ◌+◌, ◌-◌, ◌/◌, ◌==◌, List, [], ◌++◌, length, drop, slice_index, Result, Ok, Err, if◌then◌else◌, codes}
use Rattle.std.specs.Fmt.{decimal}
use Rattle.lisp_records.specs.declared.fault.RecordFault.{RecordFault}
use Rattle.lisp_records.specs.Fault.{fault_number as record_fault_number}
use Rattle.lisp_records.specs.Reading.{record_at}
use Rattle.lisp_records.specs.Record.{MapRecordValue}
use Rattle.lisp_messages.specs.Fault.{fault_number}
use Rattle.lisp_messages.specs.declared.fault.ReadFault.{ReadFault}
use Rattle.lisp_messages.specs.declared.fault.ReadFault.TheVariants as faults

-- the bytes after so many records; where one can't be read, from that one on
abbrev pub passed : Result (MapRecordValue × List ℕ) RecordFault → List ℕ → (List ℕ → List ℕ) → List ℕ
passed (Ok x) bytes go_on = go_on x.1
passed (Err e) bytes go_on = bytes

unfoldable pub after_records : ℕ → List ℕ → List ℕ
after_records zero bytes = bytes
after_records (suc n) bytes = passed (record_at bytes) bytes (after_records n)

-- where so many records end that follow the 32 bytes before them
abbrev pub records_end : ℕ → List ℕ → ℕ
records_end n bytes = length bytes - length (after_records n (drop 32 bytes))

-- the bytes after the records of a message: in a Map-Register (type 3) the xTR-ID and the Site-ID
abbrev pub tail_len : List ℕ → ℕ
tail_len bytes = if slice_index bytes 0 / 16 == 3 then 24 else 0

-- the byte at which a fault lies: the field's first, the record's first, that after the message, or that which is lacking
unfoldable pub fault_byte : List ℕ → ReadFault → ℕ
fault_byte bytes faults.Short = length bytes
fault_byte bytes faults.OutOfMemory = 0
fault_byte bytes faults.Kind = 0
fault_byte bytes faults.Algorithm = 13
fault_byte bytes faults.AuthLength = 14
fault_byte bytes faults.NoIds = 0
fault_byte bytes faults.Trailing = records_end (slice_index bytes 3) bytes + tail_len bytes
fault_byte bytes (faults.Record place _) = records_end place bytes

-- a record's place and fault
unfoldable pub inside_text : ReadFault → List ℕ
inside_text (faults.Record place f) = codes " record " ++ (decimal place ++ (codes " fault " ++ decimal (record_fault_number f)))
inside_text _ = []

abbrev pub fault_text : List ℕ → ReadFault → List ℕ
fault_text bytes f = codes "can't be read: read " ++ (decimal (fault_number f) ++ (inside_text f ++ (codes " at byte " ++ decimal (fault_byte bytes f))))

use Rattle.std.proofs.Common.{◌≡◌, take}
use Rattle.lisp_records.proofs.database.copy_records.Given as goal

-- the records so far are copied
abbrev pub invariant-loop-record : goal.invariant-loop-record
invariant-loop-record g l = l.copies.items ≡ take l.record-index l.records

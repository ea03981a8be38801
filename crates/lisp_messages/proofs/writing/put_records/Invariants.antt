use Rattle.std.proofs.Common.{◌≡◌, ◌++◌, take}
use Rattle.std.specs.Prelude.{All}
use Rattle.lisp_records.specs.Record.{IsMapRecord}
use Rattle.lisp_messages.specs.Written.{written_records}
use Rattle.lisp_messages.proofs.writing.put_records.Given as goal

-- the records so far are appended, and have spellings
abbrev pub invariant-loop-record : goal.invariant-loop-record
invariant-loop-record g l = record {
  records : l.out.items ≡ l.fn.out.items ++ written_records (take l.record-index l.records);
  known : All IsMapRecord (take l.record-index l.records);
}

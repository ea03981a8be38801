use Rattle.std.proofs.Common.{◌≡◌, ◌++◌, take}
use Rattle.std.specs.Prelude.{All}
use Rattle.lisp_records.specs.Record.{IsMapRecord}
use Rattle.lisp_requests.specs.Reply.{written_records}
use Rattle.lisp_requests.proofs.reply.put_records.Given as goal

-- those so far are appended, and have spellings
abbrev pub invariant-loop-record : goal.invariant-loop-record
invariant-loop-record g l = record {
  written : l.out.items ≡ l.fn.out.items ++ written_records (take l.record-index l.records);
  known : All IsMapRecord (take l.record-index l.records);
}

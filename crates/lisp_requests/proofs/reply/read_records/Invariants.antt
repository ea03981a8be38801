use Rattle.std.proofs.Common.{◌≡◌, ◌-◌, length}
use Rattle.lisp_requests.specs.Reading.{items_at}
use Rattle.lisp_requests.specs.Reply.{reply_record_at}
use Rattle.lisp_requests.proofs.Loop.{with_front}
use Rattle.lisp_requests.proofs.reply.read_records.Given as goal

-- the records so far, and those still to read, are what was to be read
abbrev pub invariant-loop : goal.invariant-loop
invariant-loop g l = record {
  read : with_front l.records.items (items_at reply_record_at (l.count - l.counter) l.rest) ≡ items_at reply_record_at l.count l.bytes;
  count : length l.records.items ≡ l.counter;
}

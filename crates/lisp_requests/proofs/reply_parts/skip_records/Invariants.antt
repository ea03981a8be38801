use Rattle.std.proofs.Common.{◌≡◌, ◌≤◌, ◌-◌, List, length, drop}
use Rattle.lisp_records.specs.Record.{MapRecordValue}
use Rattle.lisp_requests.specs.Reading.{items_at}
use Rattle.lisp_requests.specs.Reply.{reply_record_at}
use Rattle.lisp_requests.proofs.Loop.{with_front}
use Rattle.lisp_requests.proofs.reply_parts.skip_records.Given as goal

-- some records were passed, and with those still to pass they are what was to be read
abbrev pub invariant-loop : goal.invariant-loop
invariant-loop g l = record {
  within : l.at ≤ length l.bytes;
  front : List MapRecordValue;
  read : with_front front (items_at reply_record_at (l.end - l.counter) (drop l.at l.bytes)) ≡ items_at reply_record_at l.end (drop 12 l.bytes);
}

use Rattle.std.proofs.Common.{◌≡◌, ◌≤◌, ◌-◌, List, length, drop}
use Rattle.lisp_records.specs.Record.{MapRecordValue}
use Rattle.lisp_messages.specs.Reading.{records_at}
use Rattle.lisp_messages.proofs.Loop.{with_front}
use Rattle.lisp_messages.proofs.layout.skip_records.Given as goal

-- some records were passed, and with those still to pass they are what was to be read
abbrev pub invariant-loop-place : goal.invariant-loop-place
invariant-loop-place g l = record {
  from : 32 ≤ l.at;
  within : l.at ≤ length l.bytes;
  front : List MapRecordValue;
  read : with_front front (records_at l.place (l.place-end - l.place) (drop l.at l.bytes)) ≡ records_at 0 l.place-end (drop 32 l.bytes);
}

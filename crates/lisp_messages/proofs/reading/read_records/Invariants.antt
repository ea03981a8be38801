use Rattle.std.proofs.Common.{◌≡◌, ◌≤◌, ◌-◌, length, drop}
use Rattle.lisp_messages.specs.Reading.{records_at}
use Rattle.lisp_messages.proofs.Loop.{with_front}
use Rattle.lisp_messages.proofs.reading.read_records.Given as goal

-- the records so far, and those still to read, are what was to be read
abbrev pub invariant-loop-place : goal.invariant-loop-place
invariant-loop-place g l = record {
  within : l.at ≤ length l.bytes;
  read : with_front l.records.items (records_at l.place (l.place-end - l.place) (drop l.at l.bytes)) ≡ records_at 0 l.place-end (drop 32 l.bytes);
}

use Rattle.std.proofs.Common.{◌≡◌, ◌-◌, ◌≤◌, length, drop}
use Rattle.lisp_transcript.specs.Fault.{after_records}
use Rattle.lisp_transcript.proofs.fault_text.records_end.Given as goal

-- the records still to pass lead to where all of them do
abbrev pub invariant-loop : goal.invariant-loop
invariant-loop g l = record {
  within : l.at ≤ length l.bytes;
  rest : after_records (l.count - l.counter) (drop l.at l.bytes) ≡ after_records l.count (drop 32 l.bytes);
}

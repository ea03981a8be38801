use Rattle.std.proofs.Common.{◌≡◌, ◌++◌, take}
use Rattle.std.specs.Prelude.{string_bytes}
use Rattle.std.specs.List.{flat_map}
use Rattle.lisp_transcript.specs.Message.{one_record}
use Rattle.lisp_transcript.proofs.message_text.put_records.Given as goal

-- the records so far
abbrev pub invariant-loop-entry : goal.invariant-loop-entry
invariant-loop-entry g l = string_bytes l.text ≡ string_bytes l.fn.text ++ flat_map one_record (take l.entry-index l.records)

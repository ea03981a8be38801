use Rattle.std.proofs.Common.{◌++◌, List, ap, ◌∙◌}
use Rattle.std.specs.Prelude.{string_bytes}
use Rattle.std.specs.List.{flat_map}
use Rattle.std.proofs.lemmas.List.{take_all}
use Rattle.lisp_records.specs.Record.{MapRecordValue}
use Rattle.lisp_transcript.specs.Message.{one_record}
use Rattle.lisp_transcript.proofs.Appends.{one_more}
use Rattle.lisp_transcript.proofs.message_text.put_records.Goals as goal

pub loop-entry-preserved : goal.loop-entry-preserved
loop-entry-preserved g c =
    one_more one_record (string_bytes c.args.text.now) c.args.records.now c.loop-entry.entry-index c.entry-item.result _ _
    c.loop-entry-test.true c.entry-item.is c.loop-entry.invariant c.in_ok-put_record.ensures.text

pub returns-clause-text : goal.returns-clause-text
returns-clause-text g c =
    c.loop-entry.invariant ∙ ap (λ (ms : List MapRecordValue). string_bytes c.args.text.now ++ flat_map one_record ms) (take_all c.loop-entry.entry-index c.args.records.now c.loop-entry-test.false)

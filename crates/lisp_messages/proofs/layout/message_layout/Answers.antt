use Rattle.std.proofs.Common.{List, refl}
use Rattle.lisp_records.specs.Record.{MapRecordValue}
use Rattle.lisp_messages.specs.Meaning.{message_value}
use Rattle.lisp_messages.proofs.LayoutLemmas.{end_lacks, head_lacks, is_bare, lays_fault, records_lack, whole_is}
use Rattle.lisp_messages.proofs.layout.message_layout.Goals as goal

pub returns-in_err-kind : goal.returns-in_err-kind
returns-in_err-kind g c = lays_fault c.args.bytes.now c.from_residual.result c.in_err-kind.field-0.0 c.from_residual.ensures.1 (head_lacks c.args.bytes.now c.in_err-kind.field-0.0 c.in_err-kind.ensures.kind)

pub returns-in_err-records_end : goal.returns-in_err-records_end
returns-in_err-records_end g c =
    lays_fault c.args.bytes.now c.from_residual-in_err-records_end.result c.in_err-records_end.field-0.0 c.from_residual-in_err-records_end.ensures.1
    (records_lack c.args.bytes.now c.in_ok-kind.kind c.in_err-records_end.field-0.0 c.in_ok-kind.ensures.kind c.in_err-records_end.ensures.records)

pub returns-in_err-fields : goal.returns-in_err-fields
returns-in_err-fields g c =
    lays_fault c.args.bytes.now c.from_residual-in_err-fields.result c.in_err-fields.field-0.0 c.from_residual-in_err-fields.ensures.1
    (end_lacks c.args.bytes.now c.in_ok-kind.kind c.in_ok-records_end.ensures.records.0 _ c.in_err-fields.field-0.0 c.in_ok-kind.ensures.kind c.in_ok-records_end.ensures.records.1 (rw (← c.split_at.ensures.back, ← c.new.ensures.items) c.in_err-fields.ensures))

pub returns : goal.returns
returns g c =
    let rs : List MapRecordValue = c.in_ok-records_end.ensures.records.0 in
    let body = c.in_ok-records_end.ensures.records.1 in
    let end = rw (c.split_at.ensures.back, c.new.ensures.items) at c.in_ok-fields.ensures in
    record {
      records = rs;
      read = whole_is c.args.bytes.now c.in_ok-kind.kind rs _ (message_value c.in_ok-fields.fields) c.in_ok-kind.ensures.kind body end;
      each = body;
      bare = is_bare c.args.bytes.now c.in_ok-kind.kind _ (message_value c.in_ok-fields.fields) end;
      begins = refl;
      ends = c.in_ok-records_end.ensures.within.0;
      within = c.in_ok-records_end.ensures.within.1;
    }

use Rattle.std.proofs.Common.{List, ◌++◌, ap, subst, ◌∙◌}
use Rattle.std.proofs.lemmas.List.{take_all}
use Rattle.std.proofs.lemmas.List.Elements.{All-more}
use Rattle.lisp_records.specs.Record.{MapRecordValue, IsMapRecord}
use Rattle.lisp_records.proofs.Grown.{on_err}
use Rattle.lisp_messages.specs.Written.{written_records}
use Rattle.lisp_messages.proofs.WrittenLemmas.{records_go_on}
use Rattle.lisp_messages.proofs.writing.put_records.Goals as goal

pub returns-in_err-write_record-clause-memory : goal.returns-in_err-write_record-clause-memory
returns-in_err-write_record-clause-memory g c = on_err c.from_residual.result c.in_err-write_record.ensures.memory

pub loop-record-preserved : goal.loop-record-preserved
loop-record-preserved g c = record {
  records = records_go_on c.args.out.now.items c.loop-record.out.items c.write_record.new.out.items c.args.records.now c.loop-record.record-index c.record-item.result c.loop-record-test.true c.record-item.is c.loop-record.invariant.records c.in_ok-write_record.ensures.ok;
  known = All-more IsMapRecord c.args.records.now c.loop-record.record-index c.record-item.result c.loop-record-test.true c.loop-record.invariant.known (subst IsMapRecord c.record-item.is c.in_ok-write_record.ensures.known);
}

pub returns-clause-records : goal.returns-clause-records
returns-clause-records g c =
    let all = take_all c.loop-record.record-index c.args.records.now c.loop-record-test.false in
    c.loop-record.invariant.records ∙ ap (λ (rs : List MapRecordValue). c.args.out.now.items ++ written_records rs) all

pub returns-clause-known : goal.returns-clause-known
returns-clause-known g c =
    let all = take_all c.loop-record.record-index c.args.records.now c.loop-record-test.false in
    rw all at c.loop-record.invariant.known

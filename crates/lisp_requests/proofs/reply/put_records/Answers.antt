use Rattle.std.proofs.Common.{subst}
use Rattle.std.proofs.lemmas.List.{take_all}
use Rattle.std.proofs.lemmas.List.Elements.{All-more, recursion_from_All}
use Rattle.lisp_records.specs.Record.{IsMapRecord}
use Rattle.lisp_records.specs.Written.{written}
use Rattle.lisp_records.proofs.Grown.{on_err}
use Rattle.lisp_requests.proofs.WrittenLemmas.{items_go_on}
use Rattle.lisp_requests.proofs.reply.put_records.Goals as goal

pub returns-in_err-write_record-clause-memory : goal.returns-in_err-write_record-clause-memory
returns-in_err-write_record-clause-memory g c = on_err c.from_residual.result c.in_err-write_record.ensures.memory

pub loop-record-preserved : goal.loop-record-preserved
loop-record-preserved g c = record {
  written = items_go_on written c.args.out.now.items c.loop-record.out.items c.write_record.new.out.items c.args.records.now c.loop-record.record-index c.record-item.result c.loop-record-test.true c.record-item.is c.loop-record.invariant.written c.in_ok-write_record.ensures.ok;
  known = All-more IsMapRecord c.args.records.now c.loop-record.record-index c.record-item.result c.loop-record-test.true c.loop-record.invariant.known (subst IsMapRecord c.record-item.is c.in_ok-write_record.ensures.known);
}

pub returns-clause-known : goal.returns-clause-known
returns-clause-known g c =
    let all = take_all c.loop-record.record-index c.args.records.now c.loop-record-test.false in
    recursion_from_All IsMapRecord c.args.records.now (rw all at c.loop-record.invariant.known)

use Rattle.std.proofs.Common.{sym, ◌∙◌, arith}
use Rattle.std.proofs.lemmas.Bool.{eqb-true}
use Rattle.lisp_registration.specs.Meaning.{records_in}
use Rattle.lisp_registration.proofs.Loops.{locators_left, makes_fault, no_record, one_longer, record_made, records_made, some_left, too_few}
use Rattle.lisp_registration.proofs.record.each_record.Goals as goal

pub returns-in_default-clause-value : goal.returns-in_default-clause-value
returns-in_default-clause-value g c _ =
    too_few c.loop-entry.records.items c.args.plain.now c.loop-entry.entry-index _ c.loop-entry.rest.now (records_in c.args.plain.now c.args.locators.now) c.loop-entry-test.true c.loop-entry.invariant.made (rw c.from-count.ensures at c.in_default.ensures.cases)

pub returns-in_err-record-clause-value : goal.returns-in_err-record-clause-value
returns-in_err-record-clause-value g c =
    makes_fault _ c.from_residual.result c.in_err-record.field-0.0 (records_in c.args.plain.now c.args.locators.now) c.from_residual.ensures.1
    (λ other. no_record c.loop-entry.records.items c.args.plain.now c.loop-entry.entry-index _ c.loop-entry.rest.now (records_in c.args.plain.now c.args.locators.now) c.loop-entry-test.true c.loop-entry.invariant.made
    (omega (arith, c.in-Some.ensures.cases.0, c.from-count.ensures)) c.in_err-record.field-0.0 ((rw (c.in-Some.ensures.cases.1, c.from-count.ensures) at c.in_err-record.ensures.value) other))

pub loop-entry-preserved : goal.loop-entry-preserved
loop-entry-preserved g c = record {
  made = rw (c.in_ok-try_push.ensures.items, c.in-Some.ensures.cases.2, c.from-count.ensures)
      (record_made c.loop-entry.records.items c.args.plain.now c.loop-entry.entry-index _ c.loop-entry.rest.now (records_in c.args.plain.now c.args.locators.now) c.loop-entry-test.true c.loop-entry.invariant.made
      (omega (arith, c.in-Some.ensures.cases.0, c.from-count.ensures)) c.in_ok-record.field-0 (rw (c.in-Some.ensures.cases.1, c.from-count.ensures) at c.in_ok-record.ensures.value));
  count = one_longer c.loop-entry.records.items _ c.in_ok-record.field-0 c.loop-entry.entry-index c.in_ok-try_push.ensures.items c.loop-entry.invariant.count;
}

pub returns-then-not-is_empty-clause-value : goal.returns-then-not-is_empty-clause-value
returns-then-not-is_empty-clause-value g c _ =
    locators_left c.loop-entry.records.items c.args.plain.now c.loop-entry.entry-index c.loop-entry.rest.now (records_in c.args.plain.now c.args.locators.now) c.loop-entry-test.false (some_left c.is_empty.result _ c.is_empty.ensures c.if-not-is_empty.true) c.loop-entry.invariant.made

pub returns-clause-value : goal.returns-clause-value
returns-clause-value g c =
    records_made c.loop-entry.records.items c.args.plain.now c.loop-entry.entry-index c.loop-entry.rest.now (records_in c.args.plain.now c.args.locators.now) c.loop-entry-test.false (eqb-true _ 0 (sym c.is_empty.ensures ∙ c.if-not-is_empty.false)) c.loop-entry.invariant.made

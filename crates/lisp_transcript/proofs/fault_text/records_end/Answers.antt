use Rattle.std.proofs.Common.{◌≡◌, ◌-◌, ℕ, List, drop, ap, ◌∙◌, arith}
use Rattle.lisp_records.specs.Layout.{with_locators}
use Rattle.lisp_transcript.specs.Fault.{after_records}
use Rattle.lisp_transcript.proofs.RecordsEnd.{one_passed, ends_before, ends_behind}
use Rattle.lisp_transcript.proofs.fault_text.records_end.Goals as goal

pub loop-init : goal.loop-init
loop-init g c =
    let whole : c.args.count - 0 ≡ c.args.count = omega arith in
    record {
      within = c.records_start-at.ensures.within;
      rest = ap (λ (n : ℕ). after_records n (drop c.records_start-at.result c.args.bytes.now)) whole ∙ ap (λ (t : List ℕ). after_records c.args.count t) c.records_start-at.ensures.start;
    }

pub loop-preserved : goal.loop-preserved
loop-preserved g c = record {
  within = c.in-Ok.ensures.within;
  rest = one_passed c.args.count c.loop.counter _ _ _ (with_locators c.in-Ok.layout.fields c.in-Ok.ensures.locators) c.loop-test.true c.in-Ok.ensures.read c.loop.invariant.rest;
}

pub returns-in-Err-clause-end : goal.returns-in-Err-clause-end
returns-in-Err-clause-end g c = ends_before c.args.count (c.args.count - c.loop.counter) c.loop.at c.args.bytes.now _ c.loop.invariant.within c.in-Err.ensures c.loop.invariant.rest

pub returns-clause-end : goal.returns-clause-end
returns-clause-end g c = ends_behind c.args.count c.loop.counter c.loop.at c.args.bytes.now c.loop.invariant.within c.loop-test.false c.loop.invariant.rest

use Rattle.std.proofs.Common.{◌≡◌, ◌-◌, [], ◌∷◌, ◌++◌, arith}
use Rattle.lisp_records.specs.declared.locator.Locator.{Locator}
use Rattle.lisp_records.specs.Reading.{locators_at}
use Rattle.lisp_records.proofs.LayoutLemmas.{skips_fault}
use Rattle.lisp_records.proofs.Loop.{goes_on, ends_plainly, is_done, none_passed}
use Rattle.lisp_records.proofs.layout.skip_locators.Goals as goal

pub loop-init : goal.loop-init
loop-init c =
    let whole : c.args.count - 0 ≡ c.args.count = omega arith in
    ([], rw whole (none_passed (locators_at c.args.count c.args.bytes.now)))

pub returns-in_err-after : goal.returns-in_err-after
returns-in_err-after c =
    skips_fault _ c.from_residual.result c.in_err-after.field-0.0 (locators_at c.args.count c.args.bytes.now) c.from_residual.ensures.1
    (ends_plainly c.in_err-after.field-0.0 c.loop.invariant.0 c.args.count c.loop.counter c.loop.rest.now (locators_at c.args.count c.args.bytes.now) c.loop-test.true c.in_err-after.ensures c.loop.invariant.1)

pub loop-preserved : goal.loop-preserved
loop-preserved c =
    let passed : Locator = c.in_ok-after.field-0-0 in
    (c.loop.invariant.0 ++ passed ∷ [], goes_on c.loop.invariant.0 c.args.count c.loop.counter c.loop.rest.now passed c.in_ok-after.after.now (locators_at c.args.count c.args.bytes.now) c.loop-test.true c.in_ok-after.ensures c.loop.invariant.1)

pub returns : goal.returns
returns c = (c.loop.invariant.0, is_done c.loop.invariant.0 c.args.count c.loop.counter c.loop.rest.now (locators_at c.args.count c.args.bytes.now) c.loop-test.false c.loop.invariant.1)

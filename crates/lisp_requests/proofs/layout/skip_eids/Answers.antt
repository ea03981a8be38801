use Rattle.std.proofs.Common.{◌≡◌, ◌-◌, [], ◌∷◌, ◌++◌, arith}
use Rattle.lisp_records.specs.Address.{PrefixValue, prefix_around}
use Rattle.lisp_records.proofs.LayoutLemmas.{skips_fault}
use Rattle.lisp_requests.specs.Reading.{items_at}
use Rattle.lisp_requests.specs.Request.{eid_at}
use Rattle.lisp_requests.proofs.Loop.{goes_on, ends, is_done, none_passed}
use Rattle.lisp_requests.proofs.layout.skip_eids.Goals as goal

pub loop-init : goal.loop-init
loop-init c =
    let whole : c.args.count - 0 ≡ c.args.count = omega arith in
    ([], rw whole (none_passed (items_at eid_at c.args.count c.args.bytes.now)))

pub returns-in_err-after : goal.returns-in_err-after
returns-in_err-after c =
    skips_fault _ c.from_residual.result c.in_err-after.field-0.0 (items_at eid_at c.args.count c.args.bytes.now) c.from_residual.ensures.1
    (ends eid_at c.in_err-after.field-0.0 c.loop.invariant.0 c.args.count c.loop.counter c.loop.rest.now (items_at eid_at c.args.count c.args.bytes.now) c.loop-test.true c.in_err-after.ensures.eid c.loop.invariant.1)

pub loop-preserved : goal.loop-preserved
loop-preserved c =
    let passed : PrefixValue = prefix_around c.in_ok-after.field-0-0 c.in_ok-after.field-0-1 in
    (c.loop.invariant.0 ++ passed ∷ [], goes_on eid_at c.loop.invariant.0 c.args.count c.loop.counter c.loop.rest.now passed c.in_ok-after.after.now (items_at eid_at c.args.count c.args.bytes.now) c.loop-test.true c.in_ok-after.ensures.eid c.loop.invariant.1)

pub returns : goal.returns
returns c = (c.loop.invariant.0, is_done eid_at c.loop.invariant.0 c.args.count c.loop.counter c.loop.rest.now (items_at eid_at c.args.count c.args.bytes.now) c.loop-test.false c.loop.invariant.1)

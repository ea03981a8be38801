use Rattle.std.proofs.Common.{arith}
use Rattle.lisp_records.proofs.LayoutLemmas.{locator_left, no_locator}
use Rattle.lisp_records.proofs.layout.locator_at.Goals as goal

pub returns-then-at-bytes-clause-locator : goal.returns-then-at-bytes-clause-locator
returns-then-at-bytes-clause-locator c = no_locator c.args.bytes.now c.args.at (omega (arith, c.if-at-bytes.true))

pub overflow_sub-result : goal.overflow_sub-result
overflow_sub-result c = (locator_left c.args.bytes.now _ c.in_ok-locator.rest.now c.args.at c.in_ok-locator.locator (omega (arith, c.if-at-bytes.false)) (λ i. omega (arith, c.type_inv.bytes i)) c.split_at.ensures.back c.in_ok-locator.ensures).short

pub returns-clause-locator : goal.returns-clause-locator
returns-clause-locator c =
    let left = locator_left c.args.bytes.now _ c.in_ok-locator.rest.now c.args.at c.in_ok-locator.locator (omega (arith, c.if-at-bytes.false)) (λ i. omega (arith, c.type_inv.bytes i)) c.split_at.ensures.back c.in_ok-locator.ensures in
    rw (left.behind, ← c.split_at.ensures.back) c.in_ok-locator.ensures

pub returns-clause-within : goal.returns-clause-within
returns-clause-within c =
    let left = locator_left c.args.bytes.now _ c.in_ok-locator.rest.now c.args.at c.in_ok-locator.locator (omega (arith, c.if-at-bytes.false)) (λ i. omega (arith, c.type_inv.bytes i)) c.split_at.ensures.back c.in_ok-locator.ensures in
    (left.from, omega arith)

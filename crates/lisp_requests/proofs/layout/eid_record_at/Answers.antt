use Rattle.std.proofs.Common.{arith}
use Rattle.lisp_requests.proofs.LayoutLemmas.{eid_left, no_eid}
use Rattle.lisp_requests.proofs.layout.eid_record_at.Goals as goal

pub returns-then-at-bytes-clause-eid : goal.returns-then-at-bytes-clause-eid
returns-then-at-bytes-clause-eid c = no_eid c.args.bytes.now c.args.at (omega (arith, c.if-at-bytes.true))

pub overflow_sub-result : goal.overflow_sub-result
overflow_sub-result c = (eid_left c.args.bytes.now _ c.in_ok-addr.rest.now c.args.at _ (omega (arith, c.if-at-bytes.false)) (λ i. omega (arith, c.type_inv.bytes i)) c.split_at.ensures.back c.in_ok-addr.ensures.eid).0.short

pub returns-clause-eid : goal.returns-clause-eid
returns-clause-eid c =
    let left = eid_left c.args.bytes.now _ c.in_ok-addr.rest.now c.args.at _ (omega (arith, c.if-at-bytes.false)) (λ i. omega (arith, c.type_inv.bytes i)) c.split_at.ensures.back c.in_ok-addr.ensures.eid in
    rw (left.0.behind, c.prefix_of.ensures, ← c.split_at.ensures.back) c.in_ok-addr.ensures.eid

pub returns-clause-within : goal.returns-clause-within
returns-clause-within c =
    let left = eid_left c.args.bytes.now _ c.in_ok-addr.rest.now c.args.at _ (omega (arith, c.if-at-bytes.false)) (λ i. omega (arith, c.type_inv.bytes i)) c.split_at.ensures.back c.in_ok-addr.ensures.eid in
    (left.1, omega arith)

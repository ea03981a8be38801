use Rattle.std.proofs.Common.{arith}
use Rattle.lisp_requests.proofs.LayoutLemmas.{rloc_left, no_rloc}
use Rattle.lisp_requests.proofs.layout.itr_rloc_at.Goals as goal

pub returns-then-at-bytes-clause-rloc : goal.returns-then-at-bytes-clause-rloc
returns-then-at-bytes-clause-rloc c = no_rloc c.args.bytes.now c.args.at (omega (arith, c.if-at-bytes.true))

pub overflow_sub-result : goal.overflow_sub-result
overflow_sub-result c = (rloc_left c.args.bytes.now _ c.in_ok-addr.rest.now c.args.at c.in_ok-addr.addr (omega (arith, c.if-at-bytes.false)) (λ i. omega (arith, c.type_inv.bytes i)) c.split_at.ensures.back c.in_ok-addr.ensures.address).0.short

pub returns-clause-rloc : goal.returns-clause-rloc
returns-clause-rloc c =
    let left = rloc_left c.args.bytes.now _ c.in_ok-addr.rest.now c.args.at c.in_ok-addr.addr (omega (arith, c.if-at-bytes.false)) (λ i. omega (arith, c.type_inv.bytes i)) c.split_at.ensures.back c.in_ok-addr.ensures.address in
    rw (left.0.behind, ← c.split_at.ensures.back) c.in_ok-addr.ensures.address

pub returns-clause-within : goal.returns-clause-within
returns-clause-within c =
    let left = rloc_left c.args.bytes.now _ c.in_ok-addr.rest.now c.args.at c.in_ok-addr.addr (omega (arith, c.if-at-bytes.false)) (λ i. omega (arith, c.type_inv.bytes i)) c.split_at.ensures.back c.in_ok-addr.ensures.address in
    (left.1, omega arith)

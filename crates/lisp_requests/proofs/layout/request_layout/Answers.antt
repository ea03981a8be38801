use Rattle.std.proofs.Common.{arith}
use Rattle.lisp_requests.proofs.LayoutLemmas.{lays_fault, places}
use Rattle.lisp_requests.proofs.ReadLemmas.{front_fails, rlocs_fail, eids_fail, request_is}
use Rattle.lisp_requests.proofs.layout.request_layout.Goals as goal

pub returns-in_err-source : goal.returns-in_err-source
returns-in_err-source c = lays_fault c.args.bytes.now c.from_residual.result c.in_err-source.field-0.0 c.from_residual.ensures.1 (front_fails c.args.bytes.now c.in_err-source.field-0.0 c.in_err-source.ensures.front)

pub returns-in_err-eids : goal.returns-in_err-eids
returns-in_err-eids c =
    lays_fault c.args.bytes.now c.from_residual-in_err-eids.result c.in_err-eids.field-0.0 c.from_residual-in_err-eids.ensures.1 (rlocs_fail c.args.bytes.now c.in_ok-source.source c.in_ok-source.rlocs.now c.in_err-eids.field-0.0 c.in_ok-source.ensures.front c.in_err-eids.ensures)

pub returns-in_err-rest : goal.returns-in_err-rest
returns-in_err-rest c =
    lays_fault c.args.bytes.now c.from_residual-in_err-rest.result c.in_err-rest.field-0.0 c.from_residual-in_err-rest.ensures.1
    (eids_fail c.args.bytes.now c.in_ok-source.source c.in_ok-source.rlocs.now c.in_ok-eids.ensures.0 c.in_ok-eids.eids.now c.in_err-rest.field-0.0 c.in_ok-source.ensures.front c.in_ok-eids.ensures.1 c.in_err-rest.ensures)

pub overflow_sub-rlocs_at : goal.overflow_sub-rlocs_at
overflow_sub-rlocs_at c = (places c.args.bytes.now c.in_ok-source.source c.in_ok-source.rlocs.now c.in_ok-eids.ensures.0 c.in_ok-eids.eids.now c.in_ok-rest.ensures.0 c.in_ok-rest.rest.now (λ i. omega (arith, c.type_inv.bytes i)) c.in_ok-source.ensures.front c.in_ok-eids.ensures.1 c.in_ok-rest.ensures.1).first.short

pub overflow_sub-eids_at : goal.overflow_sub-eids_at
overflow_sub-eids_at c = (places c.args.bytes.now c.in_ok-source.source c.in_ok-source.rlocs.now c.in_ok-eids.ensures.0 c.in_ok-eids.eids.now c.in_ok-rest.ensures.0 c.in_ok-rest.rest.now (λ i. omega (arith, c.type_inv.bytes i)) c.in_ok-source.ensures.front c.in_ok-eids.ensures.1 c.in_ok-rest.ensures.1).second.short

pub overflow_sub-bytes : goal.overflow_sub-bytes
overflow_sub-bytes c = (places c.args.bytes.now c.in_ok-source.source c.in_ok-source.rlocs.now c.in_ok-eids.ensures.0 c.in_ok-eids.eids.now c.in_ok-rest.ensures.0 c.in_ok-rest.rest.now (λ i. omega (arith, c.type_inv.bytes i)) c.in_ok-source.ensures.front c.in_ok-eids.ensures.1 c.in_ok-rest.ensures.1).third.short

pub returns : goal.returns
returns c =
    let p = places c.args.bytes.now c.in_ok-source.source c.in_ok-source.rlocs.now c.in_ok-eids.ensures.0 c.in_ok-eids.eids.now c.in_ok-rest.ensures.0 c.in_ok-rest.rest.now (λ i. omega (arith, c.type_inv.bytes i)) c.in_ok-source.ensures.front c.in_ok-eids.ensures.1 c.in_ok-rest.ensures.1 in
    let at = c.layout_of.ensures.places in
    let many = c.layout_of.ensures.counts in
    let whole = request_is c.args.bytes.now c.in_ok-source.source c.in_ok-source.rlocs.now c.in_ok-eids.ensures.0 c.in_ok-eids.eids.now c.in_ok-rest.ensures.0 c.in_ok-rest.rest.now c.in_ok-source.ensures.front c.in_ok-eids.ensures.1 c.in_ok-rest.ensures.1 in
    record {
      itr_rlocs = c.in_ok-eids.ensures.0;
      eids = c.in_ok-rest.ensures.0;
      read = rw (c.layout_of.ensures.fields c.in_ok-eids.ensures.0 c.in_ok-rest.ensures.0) whole;
      each_rloc = rw (many.0, at.0, at.1, p.first.behind, p.second.behind) c.in_ok-eids.ensures.1;
      each_eid = rw (many.1, at.1, at.2, p.second.behind, p.third.behind) c.in_ok-rest.ensures.1;
      first = omega (arith, at.0, at.1, p.rlocs, p.first.short);
      second = omega (arith, at.1, at.2, p.eids, p.second.short);
      within = omega (arith, at.2);
    }

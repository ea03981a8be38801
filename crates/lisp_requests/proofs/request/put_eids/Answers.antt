use Rattle.std.proofs.Common.{subst}
use Rattle.std.proofs.lemmas.List.{take_all}
use Rattle.std.proofs.lemmas.List.Elements.{All-more, recursion_from_All}
use Rattle.lisp_requests.specs.Request.{IsEid, written_eid}
use Rattle.lisp_requests.proofs.WrittenLemmas.{items_go_on}
use Rattle.lisp_requests.proofs.request.put_eids.Goals as goal

pub loop-eid-preserved : goal.loop-eid-preserved
loop-eid-preserved g c = record {
  written = items_go_on written_eid c.args.out.now.items c.loop-eid.out.items c.put_eid.new.out.items c.args.eids.now c.loop-eid.eid-index c.eid-item.result c.loop-eid-test.true c.eid-item.is c.loop-eid.invariant.written c.in_ok-put_eid.ensures.eid;
  known = All-more IsEid c.args.eids.now c.loop-eid.eid-index c.eid-item.result c.loop-eid-test.true c.loop-eid.invariant.known (subst IsEid c.eid-item.is c.in_ok-put_eid.ensures.known);
}

pub returns-clause-known : goal.returns-clause-known
returns-clause-known g c =
    let all = take_all c.loop-eid.eid-index c.args.eids.now c.loop-eid-test.false in
    recursion_from_All IsEid c.args.eids.now (rw all at c.loop-eid.invariant.known)

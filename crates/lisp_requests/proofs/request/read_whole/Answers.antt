use Rattle.lisp_requests.proofs.GivenLaws.{gives_fault}
use Rattle.lisp_requests.proofs.ReadLemmas.{front_fails, rlocs_fail, eids_fail, request_is}
use Rattle.lisp_requests.proofs.request.read_whole.Goals as goal

pub returns-in_err-source-clause-exact : goal.returns-in_err-source-clause-exact
returns-in_err-source-clause-exact g c = gives_fault _ c.from_residual.result c.in_err-source.field-0.0 _ c.from_residual.ensures.1 (λ other. front_fails c.args.bytes.now c.in_err-source.field-0.0 c.in_err-source.ensures.front)

pub returns-in_err-itr_rlocs-clause-exact : goal.returns-in_err-itr_rlocs-clause-exact
returns-in_err-itr_rlocs-clause-exact g c =
    gives_fault _ c.from_residual-in_err-itr_rlocs.result c.in_err-itr_rlocs.field-0.0 _ c.from_residual-in_err-itr_rlocs.ensures.1
    (λ other. rlocs_fail c.args.bytes.now c.in_ok-source.source c.in_ok-source.rest.now c.in_err-itr_rlocs.field-0.0 c.in_ok-source.ensures.front (c.in_err-itr_rlocs.ensures.rlocs other))

pub returns-in_err-eids-clause-exact : goal.returns-in_err-eids-clause-exact
returns-in_err-eids-clause-exact g c =
    gives_fault _ c.from_residual-in_err-eids.result c.in_err-eids.field-0.0 _ c.from_residual-in_err-eids.ensures.1
    (λ other. eids_fail c.args.bytes.now c.in_ok-source.source c.in_ok-source.rest.now c.in_ok-itr_rlocs.itr_rlocs.items c.in_ok-itr_rlocs.rest.now c.in_err-eids.field-0.0 c.in_ok-source.ensures.front c.in_ok-itr_rlocs.ensures.rlocs (c.in_err-eids.ensures.eids other))

pub returns-clause-exact : goal.returns-clause-exact
returns-clause-exact g c =
    rw c.request_of.ensures (request_is c.args.bytes.now c.in_ok-source.source c.in_ok-source.rest.now c.in_ok-itr_rlocs.itr_rlocs.items c.in_ok-itr_rlocs.rest.now c.in_ok-eids.eids.items c.in_ok-eids.field-0-1.now c.in_ok-source.ensures.front c.in_ok-itr_rlocs.ensures.rlocs c.in_ok-eids.ensures.eids)

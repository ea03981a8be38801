use Rattle.lisp_records.proofs.Faults.{of_fault}
use Rattle.lisp_requests.specs.Reading.{items_at}
use Rattle.lisp_requests.specs.Request.{rloc_at}
use Rattle.lisp_requests.proofs.GivenLaws.{gives_fault}
use Rattle.lisp_requests.proofs.Loop.{goes_on, ends, is_done, counted}
use Rattle.lisp_requests.proofs.request.read_rlocs.Goals as goal

pub returns-in_err-addr-clause-rlocs : goal.returns-in_err-addr-clause-rlocs
returns-in_err-addr-clause-rlocs g c =
    gives_fault _ c.from_residual.result c.in_err-addr.field-0.0 _ c.from_residual.ensures.1 (λ other. ends rloc_at c.in_err-addr.field-0.0 c.loop.itr_rlocs.items c.args.count c.loop.counter c.loop.rest.now (items_at rloc_at c.args.count c.args.bytes.now) c.loop-test.true c.in_err-addr.ensures.address c.loop.invariant.read)

pub returns-in_err-addr-clause-memory : goal.returns-in_err-addr-clause-memory
returns-in_err-addr-clause-memory g c = of_fault c.from_residual.result c.in_err-addr.field-0.0 _ c.from_residual.ensures.1 (λ is. absurd (c.in_err-addr.ensures.plain is))

pub loop-preserved : goal.loop-preserved
loop-preserved g c = record {
  read = rw c.in_ok-try_push.ensures.items (goes_on rloc_at c.loop.itr_rlocs.items c.args.count c.loop.counter c.loop.rest.now c.in_ok-addr.addr c.in_ok-addr.after.now (items_at rloc_at c.args.count c.args.bytes.now) c.loop-test.true c.in_ok-addr.ensures.address c.loop.invariant.read);
  count = counted c.loop.itr_rlocs.items _ c.in_ok-addr.addr c.loop.counter c.in_ok-try_push.ensures.items c.loop.invariant.count;
}

pub returns-clause-rlocs : goal.returns-clause-rlocs
returns-clause-rlocs g c = is_done rloc_at c.loop.itr_rlocs.items c.args.count c.loop.counter c.loop.rest.now (items_at rloc_at c.args.count c.args.bytes.now) c.loop-test.false c.loop.invariant.read

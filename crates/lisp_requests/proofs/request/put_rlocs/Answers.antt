use Rattle.std.proofs.lemmas.List.{take_all}
use Rattle.std.proofs.lemmas.List.Elements.{All-more, recursion_from_All}
use Rattle.lisp_records.specs.Address.{IsWhole}
use Rattle.lisp_records.specs.Written.{written_address}
use Rattle.lisp_requests.proofs.WrittenLemmas.{item_goes_on}
use Rattle.lisp_requests.proofs.request.put_rlocs.Goals as goal

pub loop-addr-preserved : goal.loop-addr-preserved
loop-addr-preserved g c = record {
  written = item_goes_on written_address c.args.out.now.items c.loop-addr.out.items c.put_address.new.out.items c.args.itr_rlocs.now c.loop-addr.addr-index _ c.loop-addr-test.true c.loop-addr.invariant.written c.in_ok-put_address.ensures.address;
  known = All-more IsWhole c.args.itr_rlocs.now c.loop-addr.addr-index _ c.loop-addr-test.true c.loop-addr.invariant.known c.in_ok-put_address.ensures.whole;
}

pub returns-clause-known : goal.returns-clause-known
returns-clause-known g c =
    let all = take_all c.loop-addr.addr-index c.args.itr_rlocs.now c.loop-addr-test.false in
    recursion_from_All IsWhole c.args.itr_rlocs.now (rw all at c.loop-addr.invariant.known)

use Rattle.std.proofs.lemmas.Result.{on_ok_weaker}
use Rattle.lisp_messages.proofs.WrittenLemmas.{register_put, register_known}
use Rattle.lisp_messages.proofs.register.put_register.Goals as goal

pub returns-clause-written : goal.returns-clause-written
returns-clause-written g c =
    on_ok_weaker c.put_ids.result
    (register_put _ c.args.message.now c.args.out.now.items c.put_head.new.out.items c.put_records.new.out.items c.put_ids.new.out.items c.head_of.result c.as_slice-records.result.now c.message.view_is c.requires c.head_of.ensures.head c.as_slice-records.ensures c.in_ok-put_head.ensures.head c.in_ok-put_records.ensures.records)
    c.put_ids.ensures.ids

pub returns-clause-known : goal.returns-clause-known
returns-clause-known g c =
    on_ok_weaker c.put_ids.result
    (register_known _ c.args.message.now c.as_slice-records.result.now c.message.view_is c.as_slice-records.ensures c.head_of.ensures.fits c.in_ok-put_records.ensures.known c.put_ids.ensures.fits)
    c.put_ids.ensures.bytes

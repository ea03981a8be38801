use Rattle.std.proofs.Common.{ap, ◌∙◌}
use Rattle.lisp_messages.specs.Message.{MapNotifyValue}
use Rattle.lisp_messages.proofs.WrittenLemmas.{notify_put, notify_known}
use Rattle.lisp_messages.proofs.notify.put_notify.Goals as goal

pub returns-clause-written : goal.returns-clause-written
returns-clause-written g c =
    let listed = c.as_slice-records.ensures ∙ ap (λ (m : MapNotifyValue). m.records) c.message.view_is in
    notify_put c.args.message.now c.args.out.now.items c.put_head.new.out.items c.put_records.new.out.items c.head_of.result c.as_slice-records.result.now c.requires c.head_of.ensures.head listed c.in_ok-put_head.ensures.head c.in_ok-put_records.ensures.records

pub returns-clause-known : goal.returns-clause-known
returns-clause-known g c =
    let listed = c.as_slice-records.ensures ∙ ap (λ (m : MapNotifyValue). m.records) c.message.view_is in
    notify_known c.args.message.now c.as_slice-records.result.now listed c.head_of.ensures.fits c.in_ok-put_records.ensures.known

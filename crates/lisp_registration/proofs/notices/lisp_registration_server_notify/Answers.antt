use Rattle.std.proofs.Common.{sym, ◌∙◌}
use Rattle.lisp_registration.specs.Notices.{NotifiesKept, router_in}
use Rattle.lisp_registration.specs.Server.{kept_in}
use Rattle.lisp_registration.proofs.Telling.{is_made, notifies}
use Rattle.lisp_registration.proofs.notices.lisp_registration_server_notify.Goals as goal

pub returns-in-Some-clause-told : goal.returns-in-Some-clause-told
returns-in-Some-clause-told c =
    is_made (NotifiesKept (kept_in c.args.kept.now) (router_in c.args.router.now) c.args.now) c.args.now c.args.server.now.value c.in-Some.hosted.value c.args.buffer.now c.args.notice.now c.notify_kept-made.result c.notify_kept-made.new.server _
    (sym c.ready.ensures.value ∙ c.in_default.is) c.in-Some.ensures.value
    (notifies (kept_in c.args.kept.now) (router_in c.args.router.now) c.args.now c.in-Some.hosted.value.server c.notify_kept-made.new.server c.notify_kept-made.result
    (rw (c.kept-kept.ensures, c.router.ensures, c.deref_mut.ensures.value) at c.notify_kept-made.ensures.announces)
    (rw (c.kept-kept.ensures, c.router.ensures, c.deref_mut.ensures.value) at c.notify_kept-made.ensures.refused) c.notify_kept-made.ensures.storeless
    (rw c.deref_mut.ensures.value at c.notify_kept-made.ensures.err) c.args.buffer.now (sym c.ready.ensures.value ∙ c.in_default.is))
    (λ i. ((c.tell_notice.ensures i).0, (c.of.ensures i, (c.tell_notice.ensures i).1)))

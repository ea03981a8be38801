use Rattle.std.proofs.Common.{sym, ◌∙◌}
use Rattle.lisp_registration.specs.Notices.{ResendsDue, router_in}
use Rattle.lisp_registration.proofs.Telling.{is_made, resends}
use Rattle.lisp_registration.proofs.notices.lisp_registration_server_resend.Goals as goal

pub returns-in-Some-clause-told : goal.returns-in-Some-clause-told
returns-in-Some-clause-told c =
    is_made (ResendsDue (router_in c.args.router.now) c.args.now) c.args.now c.args.server.now.value c.in-Some.hosted.value c.args.buffer.now c.args.notice.now c.resend-made.result c.resend-made.new.server _
    (sym c.ready.ensures.value ∙ c.in_default.is) c.in-Some.ensures.value
    (resends (router_in c.args.router.now) c.args.now c.in-Some.hosted.value.server c.resend-made.new.server c.resend-made.result
    (rw (c.router.ensures, c.deref_mut.ensures.value) at c.resend-made.ensures.again)
    (rw (c.router.ensures, c.deref_mut.ensures.value) at c.resend-made.ensures.refused)
    (rw c.deref_mut.ensures.value at c.resend-made.ensures.err) c.args.buffer.now (sym c.ready.ensures.value ∙ c.in_default.is))
    (λ i. ((c.tell_notice.ensures i).0, (c.of.ensures i, (c.tell_notice.ensures i).1)))

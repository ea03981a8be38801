use Rattle.std.proofs.Common.{refl, sym, ap, ◌∙◌, true, false, arith}
use Rattle.lisp_server.specs.Notices.{StandingNoticeValue, is_due}
use Rattle.lisp_server.proofs.StandingLaws.{place_within, none_due, due_there, same_there, same_set, rises_still, due_seldom, not_due_alone, resends}
use Rattle.lisp_server.proofs.ReceivingLaws.{refused_for}
use Rattle.lisp_server.proofs.standing_notices.StandingNotices.resend.Goals as goal

pub index-requires : goal.index-requires
index-requires g c = omega (arith, place_within c.self.inside.items.items c.args.router.now _ (rw c.deref.ensures.value at c.in-Ok.ensures.found))

pub index_mut-requires : goal.index_mut-requires
index_mut-requires g c = omega (arith, place_within c.self.inside.items.items c.args.router.now _ (rw c.deref.ensures.value at c.in-Ok.ensures.found))

pub returns-in_default : goal.returns-in_default
returns-in_default g c = rw (← c.self.view_is) (
  not_due_alone _,
  none_due c.self.inside.items.items c.args.router.now c.args.now _ (rw c.deref.ensures.value at c.in_default.ensures.gap),
  refl,
)

pub returns-then-not-is_due : goal.returns-then-not-is_due
returns-then-not-is_due g c = rw (← c.self.view_is) (
  not_due_alone _,
  due_there c.self.inside.items.items c.args.router.now c.args.now c.in-Ok.place c.index.result.now _ false (rw c.deref.ensures.value at c.in-Ok.ensures.found) c.index.ensures (sym c.is_due.ensures ∙ c.if-not-is_due.true),
  refl,
)

pub invariant_of-self : goal.invariant_of-self
invariant_of-self g c = rises_still c.self.inside.items.items c.args.router.now c.in-Ok.place c.index_mut.result.now _ c.resend.new.self c.self.invariant (rw c.deref.ensures.value at c.in-Ok.ensures.found) c.index_mut.ensures.value (ap (λ (n : StandingNoticeValue). n.router) c.in_err-resend.ensures.err)

pub returns-in_err-resend : goal.returns-in_err-resend
returns-in_err-resend g c = rw (← c.self.view_is) (refused_for c.from_residual.result _ _ _ c.from_residual.ensures.1 (
  λ _. c.in_err-resend.ensures.memory,
  due_there c.self.inside.items.items c.args.router.now c.args.now c.in-Ok.place c.index.result.now _ true (rw c.deref.ensures.value at c.in-Ok.ensures.found) c.index.ensures (sym c.is_due.ensures ∙ c.if-not-is_due.false),
  same_set c.self.inside.items.items c.in-Ok.place c.index_mut.result.now _ c.resend.new.self c.index_mut.ensures.value c.in_err-resend.ensures.err,
))

pub invariant_of-self-2 : goal.invariant_of-self-2
invariant_of-self-2 g c = rises_still c.self.inside.items.items c.args.router.now c.in-Ok.place c.index_mut.result.now _ c.resend.new.self c.self.invariant (rw c.deref.ensures.value at c.in-Ok.ensures.found) c.index_mut.ensures.value (ap (λ (n : StandingNoticeValue). n.router) c.in_ok-resend.ensures.resent)

pub returns : goal.returns
returns g c =
    let at = rw c.deref.ensures.value at c.in-Ok.ensures.found in
    let due = ap (is_due c.args.now) (same_there c.self.inside.items.items c.args.router.now c.in-Ok.place c.index_mut.result.now c.index.result.now _ _ at c.index_mut.ensures.value c.index.ensures) ∙ sym c.is_due.ensures ∙ c.if-not-is_due.false in
    rw (← c.self.view_is) (resends c.self.inside.items.items c.args.router.now c.args.now c.in-Ok.place c.index_mut.result.now _ c.resend.new.self c.in_ok-resend.field-0.0 c.in_ok-resend.field-0.1.items at c.index_mut.ensures.value due c.in_ok-resend.ensures.resent c.in_ok-resend.ensures.datagram.0 c.in_ok-resend.ensures.datagram.1)

pub resend-requires : goal.resend-requires
resend-requires g c =
    let at = rw c.deref.ensures.value at c.in-Ok.ensures.found in
    let due = ap (is_due c.args.now) (same_there c.self.inside.items.items c.args.router.now c.in-Ok.place c.index_mut.result.now c.index.result.now _ _ at c.index_mut.ensures.value c.index.ensures) ∙ sym c.is_due.ensures ∙ c.if-not-is_due.false in
    record { moment = c.requires; seldom = due_seldom c.args.now c.index_mut.result.now due }

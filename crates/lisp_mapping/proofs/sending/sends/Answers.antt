use Rattle.std.proofs.Common.{List, [], ◌∷◌, ◌++◌, length, sym, ap, ◌∙◌, arith}
use Rattle.lisp_records.specs.declared.address.Addr.{Addr}
use Rattle.lisp_records.specs.Record.{MapRecordValue}
use Rattle.lisp_mapping.specs.Sends.{DatagramValue, has_gone, replied}
use Rattle.lisp_mapping.proofs.SendsLaws.{of_forward, of_gone, of_many, of_negative, of_records, of_silent}
use Rattle.lisp_mapping.proofs.sending.sends.Goals as goal

pub loop-reply-preserved-in_ok-try_push-in-Records : goal.loop-reply-preserved-in_ok-try_push-in-Records
loop-reply-preserved-in_ok-try_push-in-Records g c =
    let few = ap (λ (l : List MapRecordValue). length l) c.as_slice.ensures in
    let next = of_records c.args.asked.now c.args.bytes.now c.loop-reply.yielded c.in-Some.reply c.loop-reply.sent.items c.loop-reply.gone.items c.loop-reply.invariant.sent c.loop-reply.invariant.gone c.in-Records.records c.in-Records.is (omega (arith, few, c.if-as_slice-le-MAX_RECORDS.true)) c.try_push.new.self.items (c.in_ok-try_push-in-Records.ensures.items ∙ ap (λ (d : DatagramValue). c.loop-reply.sent.items ++ d ∷ []) c.in_ok-replied-in-Records.ensures.reply) in
    record { sent = next.0; gone = next.1 }

pub loop-reply-preserved-else-as_slice-le-MAX_RECORDS : goal.loop-reply-preserved-else-as_slice-le-MAX_RECORDS
loop-reply-preserved-else-as_slice-le-MAX_RECORDS g c =
    let many = ap (λ (l : List MapRecordValue). length l) c.as_slice.ensures in
    let next = of_many c.args.asked.now c.args.bytes.now c.loop-reply.yielded c.in-Some.reply c.loop-reply.sent.items c.loop-reply.gone.items c.loop-reply.invariant.sent c.loop-reply.invariant.gone c.in-Records.records c.in-Records.is (omega (arith, many, c.if-as_slice-le-MAX_RECORDS.false)) in
    record { sent = next.0; gone = next.1 }

pub loop-reply-preserved-in_ok-try_push-in-Negative : goal.loop-reply-preserved-in_ok-try_push-in-Negative
loop-reply-preserved-in_ok-try_push-in-Negative g c =
    let reply = c.in_ok-replied-in-Negative.ensures.reply ∙ ap (replied c.args.asked.now) c.in_ok-records-in-Negative.ensures.one in
    let next = of_negative c.args.asked.now c.args.bytes.now c.loop-reply.yielded c.in-Some.reply c.loop-reply.sent.items c.loop-reply.gone.items c.loop-reply.invariant.sent c.loop-reply.invariant.gone c.in-Negative.hole c.in-Negative.is c.try_push-in-Negative.new.self.items (c.in_ok-try_push-in-Negative.ensures.items ∙ ap (λ (d : DatagramValue). c.loop-reply.sent.items ++ d ∷ []) reply) in
    record { sent = next.0; gone = next.1 }

pub loop-reply-preserved-in_ok-try_push-in-Forward-2 : goal.loop-reply-preserved-in_ok-try_push-in-Forward-2
loop-reply-preserved-in_ok-try_push-in-Forward-2 g c =
    let fresh = ap (λ (l : List Addr). has_gone l c.in-Forward.to) (sym c.deref.ensures.value) ∙ sym c.has_gone.ensures ∙ c.if-not-has_gone.true in
    let next = of_forward c.args.asked.now c.args.bytes.now c.loop-reply.yielded c.in-Some.reply c.loop-reply.sent.items c.loop-reply.gone.items c.loop-reply.invariant.sent c.loop-reply.invariant.gone c.in-Forward.to c.in-Forward.is fresh c.try_push-then-not-has_gone.new.self.items c.try_push-then-not-has_gone-2.new.self.items (c.in_ok-try_push-in-Forward.ensures.items ∙ ap (λ (d : DatagramValue). c.loop-reply.sent.items ++ d ∷ []) c.in_ok-forwarded-in-Forward.ensures.on) c.in_ok-try_push-in-Forward-2.ensures.items in
    record { sent = next.0; gone = next.1 }

pub loop-reply-preserved-else-not-has_gone : goal.loop-reply-preserved-else-not-has_gone
loop-reply-preserved-else-not-has_gone g c =
    let before = ap (λ (l : List Addr). has_gone l c.in-Forward.to) (sym c.deref.ensures.value) ∙ sym c.has_gone.ensures ∙ c.if-not-has_gone.false in
    let next = of_gone c.args.asked.now c.args.bytes.now c.loop-reply.yielded c.in-Some.reply c.loop-reply.sent.items c.loop-reply.gone.items c.loop-reply.invariant.sent c.loop-reply.invariant.gone c.in-Forward.to c.in-Forward.is before in
    record { sent = next.0; gone = next.1 }

pub loop-reply-preserved : goal.loop-reply-preserved
loop-reply-preserved g c =
    let next = of_silent c.args.asked.now c.args.bytes.now c.loop-reply.yielded c.in-Some.reply c.loop-reply.sent.items c.loop-reply.gone.items c.loop-reply.invariant.sent c.loop-reply.invariant.gone c.in-Silent.is in
    record { sent = next.0; gone = next.1 }

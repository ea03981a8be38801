use Rattle.std.proofs.Common.{refl, ap, ◌∙◌, subst, Ok, Err, is_ok, true≢false, arith}
use Rattle.std.proofs.lemmas.Result.{IfOk-weaker, IfErr-weaker, on_err_weaker}
use Rattle.lisp_messages.specs.Meaning.{message_value}
use Rattle.lisp_messages.specs.Spelling.{Spells}
use Rattle.lisp_admission.specs.Refused.{refused_of_read}
use Rattle.lisp_server.proofs.ReceivingLaws.{read_fails, notification_fits, takes_register, takes_notify, refuses_register, refuses_notify, same_state, same_notices, err_of, answer_ok, answer_err, answer_on_err, answer_at}
use Rattle.lisp_server.specs.Server.{state_of}
use Rattle.lisp_server.proofs.KnownLaws.{known_after}
use Rattle.lisp_server.proofs.server.Server.receive.Goals as goal

pub receive_register-requires : goal.receive_register-requires
receive_register-requires g c = notification_fits c.args.bytes.now c.in-Ok-Register.message (λ i. omega (arith, c.type_inv.bytes i)) (subst (Spells c.args.bytes.now) (ap message_value c.in-Ok-Register.field-0-is) c.in-Ok-Register.ensures.found)

pub returns-in-Ok-Register-clause-taken : goal.returns-in-Ok-Register-clause-taken
returns-in-Ok-Register-clause-taken g c = rw (← c.self.view_is) (IfOk-weaker c.receive_register.result _ _ (λ took. takes_register _ c.in-Ok-Register.message _ _ _ _ _ _ _ took (c.in-Ok-Register.ensures.exact ∙ ap (λ m. Ok (message_value m)) c.in-Ok-Register.field-0-is)) (answer_ok c.receive_register.result _ _ c.receive_register.ensures.answer))

pub returns-in-Ok-Register-clause-refused : goal.returns-in-Ok-Register-clause-refused
returns-in-Ok-Register-clause-refused g c = rw (← c.self.view_is) (answer_err c.receive_register.result _ _ c.receive_register.ensures.answer (λ why left. refuses_register _ c.in-Ok-Register.message _ _ _ _ _ _ why (c.in-Ok-Register.ensures.exact ∙ ap (λ m. Ok (message_value m)) c.in-Ok-Register.field-0-is) left.1))

pub returns-in-Ok-Notify-clause-taken : goal.returns-in-Ok-Notify-clause-taken
returns-in-Ok-Notify-clause-taken g c = rw (← c.self.view_is) (IfOk-weaker c.receive_ack.result _ _ (λ took. takes_notify _ c.in-Ok-Notify.notify _ _ _ c.receive_ack.new.notices.notices _ _ took (c.in-Ok-Notify.ensures.exact ∙ ap (λ m. Ok (message_value m)) c.in-Ok-Notify.field-0-is)) c.receive_ack.ensures.done)

pub returns-in-Ok-Notify-clause-refused : goal.returns-in-Ok-Notify-clause-refused
returns-in-Ok-Notify-clause-refused g c = rw (← c.self.view_is) (IfErr-weaker c.receive_ack.result _ _ (λ why. refuses_notify _ c.in-Ok-Notify.notify _ _ _ _ _ why (c.in-Ok-Notify.ensures.exact ∙ ap (λ m. Ok (message_value m)) c.in-Ok-Notify.field-0-is)) c.receive_ack.ensures.refused)

pub returns-in-Err-clause-refused : goal.returns-in-Err-clause-refused
returns-in-Err-clause-refused g c = rw c.of_read.ensures (read_fails c.in-Err.fault _ _ _ c.args.self.now (g.S.NonceStore.seen c.args.store.now) c.args.now (λ is. (c.in-Err.ensures.grows (ap Err is)).1) c.in-Err.ensures.exact)

pub returns-in-Err-clause-early : goal.returns-in-Err-clause-early
returns-in-Err-clause-early g c = λ fault at. ap Err (c.of_read.ensures ∙ ap refused_of_read (let e = c.in-Err.ensures.early fault at in cc))

pub invariant_of-self : goal.invariant_of-self
invariant_of-self g c = known_after c.self.inside.sites c.args.bytes.now c.in-Ok-Register.message c.self.inside.tables c.receive_register.new.tables _ _ c.args.from c.args.now c.receive_register.result (answer_ok c.receive_register.result _ _ c.receive_register.ensures.answer) (answer_on_err c.receive_register.result _ _ c.receive_register.ensures.answer (λ why left. left.2)) c.self.invariant

pub returns-in-Ok-Register-clause-err : goal.returns-in-Ok-Register-clause-err
returns-in-Ok-Register-clause-err g c = rw (← c.self.view_is) (answer_on_err c.receive_register.result _ _ c.receive_register.ensures.answer (λ why left. same_state c.self.inside.sites c.self.inside.tables c.receive_register.new.tables left.2))

pub returns-in-Ok-Register-clause-early : goal.returns-in-Ok-Register-clause-early
returns-in-Ok-Register-clause-early g c fault at = absurd (true≢false (ap is_ok (c.in-Ok-Register.ensures.early fault at)))

pub returns-in-Ok-Register-clause-head : goal.returns-in-Ok-Register-clause-head
returns-in-Ok-Register-clause-head g c out fault at = true≢false (ap is_ok (c.in-Ok-Register.ensures.early fault at))

pub returns-in-Ok-Notify-clause-err : goal.returns-in-Ok-Notify-clause-err
returns-in-Ok-Notify-clause-err g c = rw (← c.self.view_is) (on_err_weaker c.receive_ack.result (same_notices (state_of c.self.inside.sites c.self.inside.tables) c.receive_ack.new.notices.notices) c.receive_ack.ensures.err)

pub returns-in-Ok-Notify-clause-memory : goal.returns-in-Ok-Notify-clause-memory
returns-in-Ok-Notify-clause-memory g c out = absurd (err_of c.receive_ack.result _ _ c.receive_ack.ensures.refused out)

pub returns-in-Ok-Notify-clause-load_memory : goal.returns-in-Ok-Notify-clause-load_memory
returns-in-Ok-Notify-clause-load_memory g c out = absurd (err_of c.receive_ack.result _ _ c.receive_ack.ensures.refused out)

pub returns-in-Ok-Notify-clause-save_memory : goal.returns-in-Ok-Notify-clause-save_memory
returns-in-Ok-Notify-clause-save_memory g c out = absurd (err_of c.receive_ack.result _ _ c.receive_ack.ensures.refused out)

pub returns-in-Ok-Notify-clause-early : goal.returns-in-Ok-Notify-clause-early
returns-in-Ok-Notify-clause-early g c fault at = absurd (true≢false (ap is_ok (c.in-Ok-Notify.ensures.early fault at)))

pub returns-in-Ok-Notify-clause-head : goal.returns-in-Ok-Notify-clause-head
returns-in-Ok-Notify-clause-head g c out fault at = true≢false (ap is_ok (c.in-Ok-Notify.ensures.early fault at))

pub invariant_of-self-in-Ok-Notify : goal.invariant_of-self-in-Ok-Notify
invariant_of-self-in-Ok-Notify g c = c.self.invariant

pub returns-in-Ok-Register-clause-memory : goal.returns-in-Ok-Register-clause-memory
returns-in-Ok-Register-clause-memory g c out = (answer_at c.receive_register.result _ _ _ out c.receive_register.ensures.answer).0.0 refl

pub returns-in-Ok-Register-clause-load_memory : goal.returns-in-Ok-Register-clause-load_memory
returns-in-Ok-Register-clause-load_memory g c out = (answer_at c.receive_register.result _ _ _ out c.receive_register.ensures.answer).0.1 refl

pub returns-in-Ok-Register-clause-save_memory : goal.returns-in-Ok-Register-clause-save_memory
returns-in-Ok-Register-clause-save_memory g c out = (answer_at c.receive_register.result _ _ _ out c.receive_register.ensures.answer).0.2 refl

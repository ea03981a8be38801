use Rattle.std.proofs.Common.{refl}
use Rattle.lisp_server.proofs.ReceivingLaws.{answer_at, answer_err, answer_ok, answer_on_err, same_state}
use Rattle.lisp_server.proofs.SendNoticeLaws.{known_still}
use Rattle.lisp_server.proofs.server.Server.notify.Goals as goal

pub invariant_of-self : goal.invariant_of-self
invariant_of-self g c = known_still c.self.inside.sites c.self.inside.tables c.send_notice.new.tables c.send_notice.result _ (λ x a. a.rest) (answer_ok c.send_notice.result _ _ c.send_notice.ensures.answer) (answer_on_err c.send_notice.result _ _ c.send_notice.ensures.answer (λ fault left. left.2)) c.self.invariant

pub returns-clause-err : goal.returns-clause-err
returns-clause-err g c = rw (← c.self.view_is) (answer_on_err c.send_notice.result _ _ c.send_notice.ensures.answer (λ fault left. same_state c.self.inside.sites c.self.inside.tables c.send_notice.new.tables left.2))

pub returns-clause-memory : goal.returns-clause-memory
returns-clause-memory g c out = (answer_at c.send_notice.result _ _ _ out c.send_notice.ensures.answer).0.0 refl

pub returns-clause-load_memory : goal.returns-clause-load_memory
returns-clause-load_memory g c out = (answer_at c.send_notice.result _ _ _ out c.send_notice.ensures.answer).0.1 refl

pub returns-clause-save_memory : goal.returns-clause-save_memory
returns-clause-save_memory g c out = (answer_at c.send_notice.result _ _ _ out c.send_notice.ensures.answer).0.2 refl

pub returns-clause-announces : goal.returns-clause-announces
returns-clause-announces g c = rw (← c.self.view_is) (answer_ok c.send_notice.result _ _ c.send_notice.ensures.answer)

pub returns-clause-refused : goal.returns-clause-refused
returns-clause-refused g c = rw (← c.self.view_is) (answer_err c.send_notice.result _ _ c.send_notice.ensures.answer (λ fault left. left.1))

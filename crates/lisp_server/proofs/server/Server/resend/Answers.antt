use Rattle.std.proofs.Common.{refl}
use Rattle.lisp_server.specs.Server.{state_of}
use Rattle.lisp_server.proofs.ReceivingLaws.{answer_at, answer_err, answer_ok, answer_on_err, same_notices}
use Rattle.lisp_server.proofs.server.Server.resend.Goals as goal

pub returns-clause-resends : goal.returns-clause-resends
returns-clause-resends g c = rw (← c.self.view_is) (answer_ok c.resend.result _ _ c.resend.ensures)

pub returns-clause-refused : goal.returns-clause-refused
returns-clause-refused g c = rw (← c.self.view_is) (answer_err c.resend.result _ _ c.resend.ensures (λ fault left. left.1))

pub returns-clause-err : goal.returns-clause-err
returns-clause-err g c =
    rw (← c.self.view_is) (answer_on_err c.resend.result _ _ c.resend.ensures (λ fault left. same_notices (state_of c.self.inside.sites c.self.inside.tables) c.resend.new.self.notices left.2))

pub returns-clause-memory : goal.returns-clause-memory
returns-clause-memory g c out = (answer_at c.resend.result _ _ _ out c.resend.ensures).0 refl

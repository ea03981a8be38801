use Rattle.std.proofs.Common.{refl}
use Rattle.std.proofs.lemmas.Result.{IfOk-from_err}
use Rattle.lisp_server.proofs.ReceivingLaws.{out_for}
use Rattle.lisp_server.proofs.send_notice.Recipient.prepare.Goals as goal

pub returns-in_err-prepare_notice-clause-notice : goal.returns-in_err-prepare_notice-clause-notice
returns-in_err-prepare_notice-clause-notice g c = IfOk-from_err _ _ c.from_residual.ensures.0

pub returns-in_err-prepare_notice-clause-memory : goal.returns-in_err-prepare_notice-clause-memory
returns-in_err-prepare_notice-clause-memory g c = out_for _ _ _ c.from_residual.ensures.1 c.in_err-prepare_notice.ensures.memory

pub returns-in_err-bytes-clause-notice : goal.returns-in_err-bytes-clause-notice
returns-in_err-bytes-clause-notice g c = IfOk-from_err _ _ c.from_residual-in_err-bytes.ensures.0

pub returns-in_err-bytes-clause-memory : goal.returns-in_err-bytes-clause-memory
returns-in_err-bytes-clause-memory g c = out_for _ _ _ c.from_residual-in_err-bytes.ensures.1 c.in_err-bytes.ensures.memory

pub returns-in_err-copy-clause-notice : goal.returns-in_err-copy-clause-notice
returns-in_err-copy-clause-notice g c = IfOk-from_err _ _ c.from_residual-in_err-copy.ensures.0

pub returns-in_err-copy-clause-memory : goal.returns-in_err-copy-clause-memory
returns-in_err-copy-clause-memory g c = out_for _ _ _ c.from_residual-in_err-copy.ensures.1 c.in_err-copy.ensures.memory

pub returns-clause-notice : goal.returns-clause-notice
returns-clause-notice g c = (
  rw (c.notice-notice.ensures, c.in_ok-copy.ensures.equal, c.into_vec.ensures) refl,
  rw (c.into_vec.ensures, ← c.prepare_notice.ensures.same.rows) c.in_ok-bytes.ensures.notice,
  c.in_ok-prepare_notice.ensures.room,
)

use Rattle.std.proofs.lemmas.Result.{IfOk-from_err}
use Rattle.lisp_server.proofs.ReceivingLaws.{out_for}
use Rattle.lisp_server.proofs.receive_register.prepared.Goals as goal

pub returns-in_err-prepare-clause-ok : goal.returns-in_err-prepare-clause-ok
returns-in_err-prepare-clause-ok g c = IfOk-from_err _ _ c.from_residual-in_err-prepare.ensures.0

pub returns-in_err-prepare-clause-memory : goal.returns-in_err-prepare-clause-memory
returns-in_err-prepare-clause-memory g c = out_for _ _ _ c.from_residual-in_err-prepare.ensures.1 c.in_err-prepare.ensures.memory

pub returns-in_err-rows-clause-ok : goal.returns-in_err-rows-clause-ok
returns-in_err-rows-clause-ok g c = IfOk-from_err _ _ c.from_residual.ensures.0

pub returns-in_err-rows-clause-memory : goal.returns-in_err-rows-clause-memory
returns-in_err-rows-clause-memory g c = out_for _ _ _ c.from_residual.ensures.1 c.in_err-rows.ensures.memory

pub returns-clause-ok : goal.returns-clause-ok
returns-clause-ok g c = (c.in_ok-rows.ensures.rows, c.in_ok-rows.ensures.reply, rw c.deref.ensures.value at c.in_ok-prepare.ensures.room)

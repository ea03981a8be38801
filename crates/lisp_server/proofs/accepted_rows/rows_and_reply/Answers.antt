use Rattle.std.proofs.Common.{ap, map, ◌∙◌}
use Rattle.std.proofs.lemmas.Result.{IfOk-from_err}
use Rattle.lisp_messages.specs.Message.{MapRegisterValue}
use Rattle.lisp_server.specs.AcceptedRows.{row_of}
use Rattle.lisp_server.proofs.accepted_rows.rows_and_reply.Goals as goal

pub returns-in_err-reply-clause-rows : goal.returns-in_err-reply-clause-rows
returns-in_err-reply-clause-rows g c = IfOk-from_err _ _ c.from_residual.ensures.0

pub returns-in_err-reply-clause-reply : goal.returns-in_err-reply-clause-reply
returns-in_err-reply-clause-reply g c = IfOk-from_err _ _ c.from_residual.ensures.0

pub returns-in_err-rows-clause-rows : goal.returns-in_err-rows-clause-rows
returns-in_err-rows-clause-rows g c = IfOk-from_err _ _ c.from_residual-in_err-rows.ensures.0

pub returns-in_err-rows-clause-reply : goal.returns-in_err-rows-clause-reply
returns-in_err-rows-clause-reply g c = IfOk-from_err _ _ c.from_residual-in_err-rows.ensures.0

pub returns-clause-rows : goal.returns-clause-rows
returns-clause-rows g c =
    let records = c.into_vec.ensures ∙ ap (λ (m : MapRegisterValue). m.records) c.register.view_is in
    c.in_ok-rows.ensures.rows ∙ (λ i. map (row_of (c.of-origin.ensures i)) (records i))

pub returns-clause-reply : goal.returns-clause-reply
returns-clause-reply g c = rw (← c.register.view_is) c.in_ok-reply.ensures.reply

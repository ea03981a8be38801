use Rattle.std.proofs.Common.{Err, ap}
use Rattle.lisp_player.proofs.Taking.{on_err, event_taken, event_refused, event_loses}
use Rattle.lisp_player.proofs.command.event_outcome.Goals as goal

pub returns-in_ok-text-in-Ok-clause-turns : goal.returns-in_ok-text-in-Ok-clause-turns
returns-in_ok-text-in-Ok-clause-turns g c = rw (c.outcome.ensures.text, c.outcome.ensures.line) (event_taken g.row.A.Denot g.A.Memory.may_refuse g.S.NonceStore.may_refuse _ _ _ _ _ c.in-Ok.line c.in-Ok.ensures.stands c.in-Ok.ensures.tells c.in-Ok.ensures.calm c.in_ok-text-in-Ok.ensures.text)

pub returns-in_err-text-in-Ok-clause-lost : goal.returns-in_err-text-in-Ok-clause-lost
returns-in_err-text-in-Ok-clause-lost g c = on_err c.from_residual.result _ (event_loses g.row.A.Denot g.A.Memory.may_refuse g.S.NonceStore.may_refuse _ _ _ _ c.in-Ok.line c.in-Ok.ensures.stands c.in-Ok.ensures.tells c.in-Ok.ensures.calm)

pub returns-in_ok-text-in-Err-clause-turns : goal.returns-in_ok-text-in-Err-clause-turns
returns-in_ok-text-in-Err-clause-turns g c = rw (c.outcome-in-Err.ensures.text, c.outcome-in-Err.ensures.line) (event_refused g.row.A.Denot g.A.Memory.may_refuse g.S.NonceStore.may_refuse _ _ _ _ _ _ c.in-Err.fault c.in-Err.ensures.err c.in-Err.ensures.fault (λ full. c.in-Err.ensures.memory (ap Err full)) c.in_ok-text-in-Err.ensures.text)

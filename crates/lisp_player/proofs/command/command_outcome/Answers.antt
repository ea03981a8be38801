use Rattle.std.proofs.Common.{None, refl, ap}
use Rattle.std.specs.String.{string_bytes}
use Rattle.std.proofs.lemmas.Result.{IfOk-weaker}
use Rattle.lisp_script.specs.Command.{command_value}
use Rattle.lisp_player.proofs.Taking.{as_order, lost_order, err_more, hold_turns, acks_turns, ask_turns, request_turns, due_turns}
use Rattle.lisp_player.proofs.command.command_outcome.Goals as goal

pub returns-in-Act-clause-turns : goal.returns-in-Act-clause-turns
returns-in-Act-clause-turns g c = IfOk-weaker c.event_outcome.result _ _ (λ outcome turns. as_order g.row.A.Denot g.A.Memory.may_refuse g.S.NonceStore.may_refuse _ _ _ (string_bytes outcome.text) outcome.line _ _ (ap command_value c.in-Act.is) turns) c.event_outcome.ensures.turns

pub returns-in-Act-clause-lost : goal.returns-in-Act-clause-lost
returns-in-Act-clause-lost g c = err_more c.event_outcome.result _ _ (lost_order g.row.A.Denot g.A.Memory.may_refuse g.S.NonceStore.may_refuse _ _ _ _ _ (ap command_value c.in-Act.is)) c.event_outcome.ensures.lost

pub returns-in_ok-text-in-Hold-clause-turns : goal.returns-in_ok-text-in-Hold-clause-turns
returns-in_ok-text-in-Hold-clause-turns g c = rw (c.outcome.ensures.text, c.outcome.ensures.line) (as_order g.row.A.Denot g.A.Memory.may_refuse g.S.NonceStore.may_refuse _ _ _ _ None _ _ (ap command_value c.in-Hold.is) (hold_turns g.row.A.Denot g.A.Memory.may_refuse g.S.NonceStore.may_refuse _ _ _ _ refl c.in-Hold.server c.in_ok-text-in-Hold.ensures.told))

pub returns-in_ok-text-in-Acks-clause-turns : goal.returns-in_ok-text-in-Acks-clause-turns
returns-in_ok-text-in-Acks-clause-turns g c = rw (c.outcome-in-Acks.ensures.text, c.outcome-in-Acks.ensures.line) (as_order g.row.A.Denot g.A.Memory.may_refuse g.S.NonceStore.may_refuse _ _ _ _ None _ _ (ap command_value c.in-Acks.is) (acks_turns g.row.A.Denot g.A.Memory.may_refuse g.S.NonceStore.may_refuse _ _ _ _ refl c.in-Acks.router c.in_ok-text-in-Acks.ensures.told))

pub returns-in_ok-text-in-Ask-clause-turns : goal.returns-in_ok-text-in-Ask-clause-turns
returns-in_ok-text-in-Ask-clause-turns g c = rw (c.outcome-in-Ask.ensures.text, c.outcome-in-Ask.ensures.line) (as_order g.row.A.Denot g.A.Memory.may_refuse g.S.NonceStore.may_refuse _ _ _ _ None _ _ (ap command_value c.in-Ask.is) (ask_turns g.row.A.Denot g.A.Memory.may_refuse g.S.NonceStore.may_refuse _ _ _ _ refl c.in-Ask.server c.in-Ask.addr c.in_ok-text-in-Ask.ensures.told))

pub returns-in_ok-text-in-Request-clause-turns : goal.returns-in_ok-text-in-Request-clause-turns
returns-in_ok-text-in-Request-clause-turns g c = rw (c.outcome-in-Request.ensures.text, c.outcome-in-Request.ensures.line) (as_order g.row.A.Denot g.A.Memory.may_refuse g.S.NonceStore.may_refuse _ _ _ _ None _ _ (ap command_value c.in-Request.is) (request_turns g.row.A.Denot g.A.Memory.may_refuse g.S.NonceStore.may_refuse _ _ _ _ refl c.in-Request.server c.in-Request.asked c.in-Request.from c.in_ok-text-in-Request.ensures.told))

pub returns-in_ok-text-in-Due-clause-turns : goal.returns-in_ok-text-in-Due-clause-turns
returns-in_ok-text-in-Due-clause-turns g c = rw (c.outcome-in-Due.ensures.text, c.outcome-in-Due.ensures.line) (as_order g.row.A.Denot g.A.Memory.may_refuse g.S.NonceStore.may_refuse _ _ _ _ None _ _ (ap command_value c.in-Due.is) (due_turns g.row.A.Denot g.A.Memory.may_refuse g.S.NonceStore.may_refuse _ _ _ _ refl c.in-Due.node c.in_ok-text-in-Due.ensures.told))

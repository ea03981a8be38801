use Rattle.std.proofs.Common.{map}
use Rattle.std.proofs.lemmas.Result.{err_from_is_err_and, IfErr-weaker}
use Rattle.lisp_script.specs.Command.{command_value}
use Rattle.lisp_player.proofs.Taking.{at_ok}
use Rattle.lisp_player.proofs.Beginning.{played, stopped, broken, same_fault, ended_refuses, refuses_so, unread_not_broken}
use Rattle.lisp_player.proofs.schedule.play_input.Goals as goal

pub returns-clause-plays : goal.returns-clause-plays
returns-clause-plays g c = at_ok c.play_commands.result _ _
    (λ from. played _ _ c.args.input.now c.in_ok-config.config (map command_value c.in_ok-config.commands.items) _ _ c.in_ok-config.ensures.schedule (λ orders. orders) (rw c.deref.ensures.value at from)) c.play_commands.ensures.plays

pub returns-clause-stops : goal.returns-clause-stops
returns-clause-stops g c = λ memory.
    stopped _ _ c.args.input.now c.in_ok-config.config (map command_value c.in_ok-config.commands.items) _ _ c.in_ok-config.ensures.schedule (rw c.deref.ensures.value at (c.play_commands.ensures.stops memory))

pub returns-clause-breaks : goal.returns-clause-breaks
returns-clause-breaks g c = λ cut.
    broken _ _ c.args.input.now c.in_ok-config.config (map command_value c.in_ok-config.commands.items) _ _ c.in_ok-config.ensures.schedule (rw c.deref.ensures.value at (c.play_commands.ensures.breaks cut))

pub returns-clause-refuses : goal.returns-clause-refuses
returns-clause-refuses g c = IfErr-weaker c.play_commands.result _ _ (λ fault why. ended_refuses g.A.Memory.may_refuse c.in_ok-config.config c.args.input.now (map command_value c.in_ok-config.commands.items) c.in_ok-config.ensures.schedule fault why) c.play_commands.ensures.faults

pub returns-in_err-config-clause-refuses : goal.returns-in_err-config-clause-refuses
returns-in_err-config-clause-refuses g c =
    let p = err_from_is_err_and c.from_residual.result c.from_residual.ensures.1 in
    rw (p.1, p.2) (refuses_so g.A.Memory.may_refuse c.args.input.now c.in_err-config.field-0.0 c.in_err-config.ensures.faults)

pub returns-in_err-config-clause-breaks : goal.returns-in_err-config-clause-breaks
returns-in_err-config-clause-breaks g c =
    let p = err_from_is_err_and c.from_residual.result c.from_residual.ensures.1 in
    rw (p.1, p.2) (λ is. unread_not_broken g.A.Memory.may_refuse c.args.input.now c.in_err-config.field-0.0 c.in_err-config.ensures.faults (same_fault is))

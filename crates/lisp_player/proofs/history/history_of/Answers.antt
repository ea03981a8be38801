use Rattle.std.proofs.Common.{map, ◌∙◌}
use Rattle.std.proofs.lemmas.List.{length-map}
use Rattle.std.proofs.lemmas.Result.{err_from_is_err_and}
use Rattle.lisp_script.specs.Command.{command_value}
use Rattle.lisp_player.proofs.Beginning.{asked, begun_ends, ended_refuses, played, refuses_so}
use Rattle.lisp_player.proofs.Telling.{begun_of_input, faulty_of_input}
use Rattle.lisp_player.proofs.history.history_of.Goals as goal

pub returns-clause-plays : goal.returns-clause-plays
returns-clause-plays g c =
    played _ _ c.args.input.now c.in_ok-config.config (map command_value c.in_ok-config.commands.items) _ _ c.in_ok-config.ensures.schedule (λ orders. orders) (rw c.deref.ensures.value at c.in_ok-outcomes.ensures.plays)

pub returns-in_err-config-clause-refuses : goal.returns-in_err-config-clause-refuses
returns-in_err-config-clause-refuses g c =
    let p = err_from_is_err_and c.from_residual.result c.from_residual.ensures.1 in
    rw (p.1, p.2) (refuses_so g.A.Memory.may_refuse c.args.input.now c.in_err-config.field-0.0 c.in_err-config.ensures.faults)

pub returns-clause-schedule : goal.returns-clause-schedule
returns-clause-schedule g c =
    asked c.args.input.now c.in_ok-config.config (map command_value c.in_ok-config.commands.items) c.in_ok-config.ensures.schedule c.in_ok-outcomes.ensures.plays.distinct

pub returns-in_err-outcomes-clause-refuses : goal.returns-in_err-outcomes-clause-refuses
returns-in_err-outcomes-clause-refuses g c =
    let p = err_from_is_err_and c.from_residual-in_err-outcomes.result c.from_residual-in_err-outcomes.ensures.1 in
    let ends = begun_ends g.A.Memory.may_refuse c.in_ok-config.config c.in_err-outcomes.field-0.0 c.in_err-outcomes.ensures.faults in
    rw (p.1, p.2) (ended_refuses g.A.Memory.may_refuse c.in_ok-config.config c.args.input.now (map command_value c.in_ok-config.commands.items) c.in_ok-config.ensures.schedule c.in_err-outcomes.field-0.0 ends)

pub returns-in_err-config-clause-faults : goal.returns-in_err-config-clause-faults
returns-in_err-config-clause-faults g c =
    let p = err_from_is_err_and c.from_residual.result c.from_residual.ensures.1 in
    rw (p.1, p.2) (faulty_of_input g.A.Memory.may_refuse c.args.input.now c.in_err-config.field-0.0 c.in_err-config.ensures.faults)

pub returns-in_err-outcomes-clause-faults : goal.returns-in_err-outcomes-clause-faults
returns-in_err-outcomes-clause-faults g c =
    let p = err_from_is_err_and c.from_residual-in_err-outcomes.result c.from_residual-in_err-outcomes.ensures.1 in
    rw (p.1, p.2) (begun_of_input g.A.Memory.may_refuse c.in_ok-config.config c.in_err-outcomes.field-0.0 c.in_err-outcomes.ensures.faults)

pub returns-clause-each : goal.returns-clause-each
returns-clause-each g c = rw c.deref.ensures.value at c.in_ok-outcomes.ensures.each

pub returns-clause-numbered : goal.returns-clause-numbered
returns-clause-numbered g c = c.in_ok-lines.ensures.counts _ c.in_ok-config.ensures.schedule ∙ length-map c.in_ok-config.commands.items command_value

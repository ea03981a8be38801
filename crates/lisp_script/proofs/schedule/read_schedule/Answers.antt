use Rattle.std.proofs.Common.{ap, sym, map, ◌∙◌}
use Rattle.std.proofs.lemmas.Result.{err_from_is_err_and}
use Rattle.lisp_script.specs.Command.{command_value}
use Rattle.lisp_script.specs.Parts.{parted}
use Rattle.lisp_script.proofs.Scheduled.{no_text, no_parts, no_configuration, no_script, a_schedule}
use Rattle.lisp_script.proofs.schedule.read_schedule.Goals as goal

pub returns-in_default-clause-faults : goal.returns-in_default-clause-faults
returns-in_default-clause-faults g c = no_text c.args.input.now c.in_default.ensures.cases.0

pub returns-in_default-parted-clause-faults : goal.returns-in_default-parted-clause-faults
returns-in_default-parted-clause-faults g c = no_parts c.args.input.now c.in-Ok.ensures.cases.1 (ap parted (sym c.in-Ok.ensures.cases.0) ∙ sym c.in_default-parted.ensures)

pub returns-in_err-config-clause-faults : goal.returns-in_err-config-clause-faults
returns-in_err-config-clause-faults g c =
    let p = err_from_is_err_and c.from_residual.result c.from_residual.ensures.1 in
    let parts = ap parted (sym c.in-Ok.ensures.cases.0) ∙ sym c.in-Some.ensures in
    rw (p.1, p.2) (no_configuration c.args.input.now c.in-Ok.ensures.cases.1 c.in-Some.configuration.now c.in-Some.script.now parts c.in_err-config.field-0.0 c.in_err-config.ensures)

pub returns-in_err-commands-clause-faults : goal.returns-in_err-commands-clause-faults
returns-in_err-commands-clause-faults g c =
    let p = err_from_is_err_and c.from_residual-in_err-commands.result c.from_residual-in_err-commands.ensures.1 in
    let parts = ap parted (sym c.in-Ok.ensures.cases.0) ∙ sym c.in-Some.ensures in
    let script = c.in_err-commands.ensures in
    let why = c.in_err-commands.field-0.0 in
    rw (p.1, p.2) (no_script c.args.input.now c.in-Ok.ensures.cases.1 c.in-Some.configuration.now c.in-Some.script.now parts c.in_ok-config.config c.in_ok-config.ensures g.A.Memory.may_refuse why.line why.what script.fault script.memory script.reached)

pub returns-clause-schedule : goal.returns-clause-schedule
returns-clause-schedule g c =
    let parts = ap parted (sym c.in-Ok.ensures.cases.0) ∙ sym c.in-Some.ensures in
    a_schedule c.args.input.now c.in-Ok.ensures.cases.1 c.in-Some.configuration.now c.in-Some.script.now parts c.in_ok-config.config c.in_ok-config.ensures (map command_value c.in_ok-commands.commands.items) c.in_ok-commands.ensures.commands

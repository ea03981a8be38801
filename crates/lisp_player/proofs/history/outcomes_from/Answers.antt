use Rattle.std.proofs.Common.{map}
use Rattle.lisp_script.specs.Command.{command_value}
use Rattle.lisp_player.proofs.Beginning.{memory_ends, played_from}
use Rattle.lisp_player.proofs.Telling.{outcomes_from}
use Rattle.lisp_player.proofs.history.outcomes_from.Goals as goal

pub returns-clause-plays : goal.returns-clause-plays
returns-clause-plays g c =
    played_from _ _ c.args.config.now (map command_value c.args.commands.now) c.in_ok-world.world c.outcomes_on.new.world _ _ c.in_ok-world.ensures.repeats c.in_ok-world.ensures.begins c.in_ok-outcomes.ensures.plays

pub returns-in_err-outcomes-clause-faults : goal.returns-in_err-outcomes-clause-faults
returns-in_err-outcomes-clause-faults g c = memory_ends g.A.Memory.may_refuse c.args.config.now _ c.from_residual-in_err-outcomes.ensures.1 c.in_err-outcomes.ensures.memory

pub returns-clause-each : goal.returns-clause-each
returns-clause-each g c =
    outcomes_from _ _ c.args.config.now c.in_ok-world.world c.outcomes_on.new.world (map command_value c.args.commands.now) _ c.in_ok-world.ensures.begins c.in_ok-outcomes.ensures.each

use Rattle.std.proofs.Common.{◌≡◌, [], Some, map, take, length}
use Rattle.std.specs.Prelude.{All}
use Rattle.lisp_script.specs.Command.{command_value}
use Rattle.lisp_player.specs.Outcomes.{ListsKept, OutcomesLead, TellsLine, texts}
use Rattle.lisp_player.specs.Playing.{Wrote}
use Rattle.lisp_player.proofs.history.outcomes_on.Given as goal

-- what the commands so far came to
abbrev pub invariant-loop-command : goal.invariant-loop-command
invariant-loop-command g l =
    Wrote g.row.A.Denot g.A.Memory.may_refuse g.A.Memory.may_refuse l.fn.world l.world l.config (take l.command-index (map command_value l.commands)) (Some []) (Some (texts l.outcomes.items))
    × OutcomesLead g.row.A.Denot g.A.Memory.may_refuse g.A.Memory.may_refuse l.fn.world l.world l.config (take l.command-index (map command_value l.commands)) l.outcomes.items
    × (length l.outcomes.items ≡ l.command-index)
    × All (TellsLine l.config) l.outcomes.items
    × All ListsKept l.outcomes.items

use Rattle.std.proofs.Common.{map}
use Rattle.std.proofs.lemmas.Result.{err_from_is_err_and, IfErr-weaker}
use Rattle.lisp_script.specs.Command.{command_value}
use Rattle.lisp_player.proofs.Taking.{at_ok}
use Rattle.lisp_player.proofs.Beginning.{same_fault, played_from, stopped_from, broken_from, neither, begun_ends, played_ends, not_broken}
use Rattle.lisp_player.proofs.schedule.play_commands.Goals as goal

pub returns-in_err-world-clause-faults : goal.returns-in_err-world-clause-faults
returns-in_err-world-clause-faults g c =
    let p = err_from_is_err_and c.from_residual.result c.from_residual.ensures.1 in
    rw (p.1, p.2) (begun_ends g.A.Memory.may_refuse c.args.config.now c.in_err-world.field-0.0 c.in_err-world.ensures.faults)

pub returns-in_err-world-clause-breaks : goal.returns-in_err-world-clause-breaks
returns-in_err-world-clause-breaks g c =
    let p = err_from_is_err_and c.from_residual.result c.from_residual.ensures.1 in
    rw (p.1, p.2) (λ is. not_broken g.A.Memory.may_refuse c.args.config.now c.in_err-world.field-0.0 c.in_err-world.ensures.faults (same_fault is))

pub returns-clause-plays : goal.returns-clause-plays
returns-clause-plays g c = at_ok c.play_all.result _ _
    (λ wrote. played_from _ _ c.args.config.now (map command_value c.args.commands.now) c.in_ok-world.world c.play_all.new.world _ _ c.in_ok-world.ensures.repeats c.in_ok-world.ensures.begins wrote) c.play_all.ensures.plays

pub returns-clause-stops : goal.returns-clause-stops
returns-clause-stops g c = λ memory.
    stopped_from _ _ c.args.config.now (map command_value c.args.commands.now) c.in_ok-world.world c.play_all.new.world _ _ c.in_ok-world.ensures.repeats c.in_ok-world.ensures.begins (c.play_all.ensures.stops memory)

pub returns-clause-breaks : goal.returns-clause-breaks
returns-clause-breaks g c = λ cut.
    broken_from _ _ c.args.config.now (map command_value c.args.commands.now) c.in_ok-world.world c.play_all.new.world _ _ c.in_ok-world.ensures.repeats c.in_ok-world.ensures.begins (c.play_all.ensures.breaks cut)

pub returns-clause-silent : goal.returns-clause-silent
returns-clause-silent g c = IfErr-weaker c.play_all.result _ _ (λ fault why. neither fault why) c.play_all.ensures.faults

pub returns-clause-faults : goal.returns-clause-faults
returns-clause-faults g c = played_ends g.A.Memory.may_refuse c.args.config.now c.play_all.result c.play_all.ensures.faults c.play_all.ensures.memory

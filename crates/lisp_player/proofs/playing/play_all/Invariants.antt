use Rattle.std.proofs.Common.{map, take}
use Rattle.lisp_script.specs.Command.{command_value}
use Rattle.lisp_player.specs.Playing.{Wrote}
use Rattle.lisp_player.proofs.playing.play_all.Given as goal

-- the commands so far were written
abbrev pub invariant-loop-place : goal.invariant-loop-place
invariant-loop-place g l = Wrote g.row.A.Denot g.A.Memory.may_refuse g.S.NonceStore.may_refuse l.fn.world l.world l.config (take l.place (map command_value l.commands)) (g.W.Write.contents l.fn.writer) (g.W.Write.contents l.writer)

use Rattle.std.proofs.Common.{ℕ, List}
use Rattle.lisp_log.specs.Log.{LogState, TellsSilences}
use Rattle.lisp_log.proofs.Silent.{count_silent}
use Rattle.lisp_log.proofs.log.Log.tell_silences.Given as goal

-- what is told from here on is told behind what was told so far
abbrev pub invariant-loop : goal.invariant-loop
invariant-loop g l = (end : LogState) (others : List (ℕ × ℕ)) → TellsSilences g.A.Memory.may_refuse l.self end l.now others → (told : List (ℕ × ℕ)) × TellsSilences g.A.Memory.may_refuse l.initial.self end l.now told

abbrev pub decreases-loop : goal.decreases-loop
decreases-loop g l = count_silent l.now l.self.silences

use Rattle.std.proofs.Common.{List}
use Rattle.lisp_log.specs.Log.{LogState, TellsReplays}
use Rattle.lisp_log.specs.declared.replays.Replay.{Replay}
use Rattle.lisp_log.proofs.Due.{count_due}
use Rattle.lisp_log.proofs.log.Log.tell_replays.Given as goal

-- what is told from here on is told behind what was told so far
abbrev pub invariant-loop : goal.invariant-loop
invariant-loop g l = (end : LogState) (others : List Replay) → TellsReplays g.A.Memory.may_refuse l.self end l.now others → (told : List Replay) × TellsReplays g.A.Memory.may_refuse l.initial.self end l.now told

abbrev pub decreases-loop : goal.decreases-loop
decreases-loop g l = count_due l.now l.self.replays

use Rattle.std.specs.Prelude.{map, take}
use Rattle.lisp_model.specs.Trace.{event_value}
use Rattle.lisp_world.specs.Quiet.{AllCalm, stores_of}
use Rattle.lisp_world.specs.Runs.{RunsOn}
use Rattle.lisp_world.proofs.world.World.run.Given as goal

-- the events before this one were run, and stores that were calm are so again
abbrev pub invariant-loop-i : goal.invariant-loop-i
invariant-loop-i g l =
    RunsOn g.A.Memory.may_refuse g.S.NonceStore.may_refuse l.fn.self l.self l.fn.lines.items l.lines.items (take l.i (map event_value l.events)) × (AllCalm (stores_of l.fn.self) → AllCalm (stores_of l.self))

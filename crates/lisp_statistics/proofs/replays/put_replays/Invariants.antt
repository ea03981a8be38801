use Rattle.std.proofs.Common.{◌≡◌, ◌++◌, take}
use Rattle.std.specs.List.{flat_map}
use Rattle.std.specs.String.{string_bytes}
use Rattle.lisp_statistics.specs.Replays.{run_text}
use Rattle.lisp_statistics.proofs.replays.put_replays.Given as goal

-- the runs so far
abbrev pub invariant-loop-run : goal.invariant-loop-run
invariant-loop-run g l = string_bytes l.text ≡ string_bytes l.fn.text ++ flat_map (run_text l.name l.now) (take l.run-index l.runs)

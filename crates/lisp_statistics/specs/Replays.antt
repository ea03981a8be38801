-- The runs of Map-Registers that a Map-Server refuses as replays.
use Rattle.std.specs.Prelude.{ℕ, List}
use Rattle.std.specs.List.{count_by}
use Rattle.lisp_log.specs.Replays.{lasts}
use Rattle.lisp_log.specs.Text.{replay_text}
use Rattle.lisp_log.specs.declared.replays.Replay.{Replay}

-- how many are three minutes long, and go on
abbrev pub replay_count : ℕ → List Replay → ℕ
replay_count now runs = count_by (lasts now) runs

-- the line of each: that by which the Map-Server with a name tells it
abbrev pub run_text : List ℕ → ℕ → Replay → List ℕ
run_text name now r = replay_text name r now

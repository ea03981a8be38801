-- The log of a node that runs without an end, and what of it goes to standard output.
use Rattle.std.specs.Prelude.{◌≡◌, ℕ, List, Option, None}
use Rattle.lisp_turns.specs.declared.outside.Printed.{Printed}
use Rattle.lisp_log.specs.Log.{LogState, TellsLine, Passes}
use Rattle.lisp_log.specs.Text.{device_of}
use Rattle.lisp_log.specs.Waiting.{Pours}

-- what waits is written as far as it can be; of what standard output took nothing is known
abbrev pub IsPoured : LogState → LogState → Type 0
IsPoured old new = Pours old.waiting new.waiting None None × (new ≡ record old { waiting = new.waiting })

-- time passes in the log, and it is poured
abbrev pub PassesAndPours : Type 0 → LogState → LogState → ℕ → Type 0
PassesAndPours may_refuse old new now = (between : LogState) × Passes may_refuse old between now × IsPoured between new

-- a line is told, with the kind of an error behind it only where a device failed; and the log is poured
abbrev pub TellsAndPours : Type 0 → LogState → LogState → Printed → ℕ → Type 0
TellsAndPours may_refuse old new line now = (between : LogState) × (cause : Option (List ℕ)) × (device_of line ≡ None → cause ≡ None)
    × TellsLine may_refuse old between line cause now × IsPoured between new

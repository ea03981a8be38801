-- The numbers of a script's faults.
use Rattle.std.specs.Prelude.{◌≡◌, ◌⊎◌, ℕ, Result, Ok, Err}
use Rattle.lisp_script.specs.declared.fault.ScriptWhat.{ScriptWhat}
use Rattle.lisp_script.specs.declared.fault.ScriptWhat.TheVariants.{Word, Count, Name, Number, Record, Hex, Memory}

abbrev pub what_number : ScriptWhat → ℕ
what_number Word = 80
what_number Count = 81
what_number Name = 82
what_number Number = 83
what_number Record = 84
what_number Hex = 85
what_number Memory = 86

-- what a function answers, seen by view, is what a definition gives; memory runs out only where it may
abbrev pub Gives : {X Y : Type 0} → Type 0 → (X → Y) → Result X ScriptWhat → Result Y ScriptWhat → Type 0
Gives may view (Ok x) read = read ≡ Ok (view x)
Gives may view (Err what) read = (may × (what ≡ Memory)) ⊎ (read ≡ Err what)

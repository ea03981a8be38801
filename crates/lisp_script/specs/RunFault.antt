-- The exit status of a fault of a node on sockets and files, by the fault's number: 1 where files, sockets, reading, writing
-- or memory fail, 2 for what is wrong in the words, the configuration or the script.
use Rattle.std.specs.Prelude.{ℕ, Bool, List, ◌∷◌, [], ◌==◌, Option, Some, None, if◌then◌else◌}
use Rattle.std.specs.List.{list_any}
use Rattle.std.specs.Option.{unwrap_or}
use Rattle.lisp_script.specs.PlayFault.{play_fault_number, play_fault_line}
use Rattle.lisp_script.specs.declared.play_fault.PlayFault.{PlayFault}
use Rattle.lisp_script.specs.declared.play_fault.PlayFault.TheVariants as play_faults
use Rattle.lisp_script.specs.declared.input_fault.InputFault.{InputFault}
use Rattle.lisp_script.specs.declared.input_fault.InputFault.TheVariants.{File, Config, Input}
use Rattle.lisp_script.specs.declared.run_fault.RunFault.{RunFault}

-- what failed and isn't wrong: memory (24, 36, 75, 86, 97), a router's start (35, 76), reading and writing (87, 88, 89), a
-- socket (92), a file or folder (93)
abbrev pub failures : List ℕ
failures = 24 ∷ 35 ∷ 36 ∷ 75 ∷ 76 ∷ 86 ∷ 87 ∷ 88 ∷ 89 ∷ 92 ∷ 93 ∷ 97 ∷ []

abbrev pub is_failure : ℕ → Bool
is_failure number = list_any (λ failure. failure == number) failures

abbrev pub run_status : ℕ → ℕ
run_status number = if is_failure number then 1 else 2

-- the faulty line of a script, from 1 on; 0 where no line is
abbrev pub run_line : ℕ → Option ℕ
run_line line = if line == 0 then None else Some line

-- a fault that is in no line of a script
abbrev pub numbered : ℕ → RunFault
numbered number = record { number = number; line = 0 }

-- a play's fault, by its number and its line
abbrev pub from_play : PlayFault → RunFault
from_play fault = record { number = play_fault_number fault; line = unwrap_or (play_fault_line fault) 0 }

-- a file's: 93 where it can't be opened
abbrev pub from_input : InputFault → RunFault
from_input File = numbered 93
from_input (Config placed) = from_play (play_faults.Config placed.fault)
from_input (Input fault) = from_play fault

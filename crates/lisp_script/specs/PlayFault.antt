-- The numbers of a play's faults, and the exit status of each: 1 where reading, writing or memory fails, 2 for what is
-- wrong in the input.
use Rattle.std.specs.Prelude.{◌≡◌, ◌⊎◌, ℕ, Option, Some, None}
use Rattle.lisp_sites.specs.Field.{fault_number as config_fault_number}
use Rattle.lisp_sites.specs.declared.fault.ConfigFault.{ConfigFault}
use Rattle.lisp_sites.specs.declared.fault.ConfigFault.TheVariants as config_faults
use Rattle.lisp_script.specs.Fault.{what_number}
use Rattle.lisp_script.specs.declared.fault.ScriptWhat.{ScriptWhat}
use Rattle.lisp_script.specs.declared.fault.ScriptWhat.TheVariants as whats
use Rattle.lisp_model.specs.Faults.{world_fault_number}
use Rattle.lisp_model.specs.declared.world_fault.WorldFault.{WorldFault}
use Rattle.lisp_model.specs.declared.world_fault.WorldFault.TheVariants as world_faults
use Rattle.lisp_script.specs.declared.play_fault.PlayFault.{PlayFault}
use Rattle.lisp_script.specs.declared.play_fault.PlayFault.TheVariants.{Read, Write, TooLong, NotUtf8, NoScript, Config, Script, World, OutOfMemory}

abbrev pub play_fault_number : PlayFault → ℕ
play_fault_number Read = 87
play_fault_number Write = 88
play_fault_number TooLong = 89
play_fault_number NotUtf8 = 95
play_fault_number NoScript = 96
play_fault_number OutOfMemory = 97
play_fault_number (Config fault) = config_fault_number fault
play_fault_number (Script fault) = what_number fault.what
play_fault_number (World fault) = world_fault_number fault

abbrev pub config_status : ConfigFault → ℕ
config_status config_faults.OutOfMemory = 1
config_status _ = 2

abbrev pub what_status : ScriptWhat → ℕ
what_status whats.Memory = 1
what_status _ = 2

abbrev pub world_status : WorldFault → ℕ
world_status world_faults.OutOfMemory = 1
world_status (world_faults.Start _ _) = 1
world_status _ = 2

abbrev pub play_fault_status : PlayFault → ℕ
play_fault_status Read = 1
play_fault_status Write = 1
play_fault_status TooLong = 1
play_fault_status NotUtf8 = 2
play_fault_status NoScript = 2
play_fault_status OutOfMemory = 1
play_fault_status (Config fault) = config_status fault
play_fault_status (Script fault) = what_status fault.what
play_fault_status (World fault) = world_status fault

-- an input can't be read; a text can't be written
abbrev pub IsReadingFault : PlayFault → Type 0
IsReadingFault fault = (fault ≡ OutOfMemory) ⊎ (fault ≡ TooLong) ⊎ (fault ≡ Read)

abbrev pub IsWritingFault : PlayFault → Type 0
IsWritingFault fault = (fault ≡ OutOfMemory) ⊎ (fault ≡ Write)

-- the faulty line of the script
abbrev pub play_fault_line : PlayFault → Option ℕ
play_fault_line (Script fault) = Some fault.line
play_fault_line _ = None

-- A schedule: a configuration, a line `---`, and the commands of a script.
use Rattle.std.specs.Prelude.{◌≡◌, ◌⊎◌, ℕ, true, List, map, Vec, Some, Result, Ok, Err, if◌then◌else◌}
use Rattle.std.specs.Option.{ok_or}
use Rattle.std.specs.Str.{is_utf8}
use Rattle.toml.specs.Parse.{parse_document}
use Rattle.lisp_records.specs.Result.{◌>>=◌}
use Rattle.lisp_policy.specs.Configuration.{ConfigValue}
use Rattle.lisp_sites.specs.Table.{config_of}
use Rattle.lisp_sites.specs.declared.fault.ConfigFault.{ConfigFault}
use Rattle.lisp_sites.specs.declared.fault.ConfigFault.TheVariants as config_faults
use Rattle.lisp_script.specs.declared.fault.ScriptWhat.{ScriptWhat}
use Rattle.lisp_script.specs.declared.fault.ScriptWhat.TheVariants.{Memory}
use Rattle.lisp_script.specs.declared.command.Command.{Command}
use Rattle.lisp_script.specs.Command.{CommandValue, command_value}
use Rattle.lisp_script.specs.Spelling.{script_of, HasReload, IsReached}
use Rattle.lisp_script.specs.declared.play_fault.PlayFault.{PlayFault}
use Rattle.lisp_script.specs.declared.play_fault.PlayFault.TheVariants as faults
use Rattle.lisp_script.specs.Parts.{parted}

-- a fault of one kind as one of a play
abbrev pub as_fault : {X E : Type 0} → (E → PlayFault) → Result X E → Result X PlayFault
as_fault kind (Ok x) = Ok x
as_fault kind (Err e) = Err (kind e)

-- the schedule of an input, or the first thing that is wrong with it: no UTF-8, no line ---, a configuration, a script
unfoldable pub script_in : ConfigValue → List ℕ → Result (ConfigValue × List CommandValue) PlayFault
script_in c text = do
  orders ← as_fault faults.Script (script_of c text)
  Ok (c, orders)

unfoldable pub parts_in : List ℕ × List ℕ → Result (ConfigValue × List CommandValue) PlayFault
parts_in parts = do
  c ← as_fault faults.Config (config_of (parse_document parts.0))
  script_in c parts.1

unfoldable pub schedule_of : List ℕ → Result (ConfigValue × List CommandValue) PlayFault
schedule_of input = do
  text ← if is_utf8 input then Ok input else Err faults.NotUtf8
  parts ← ok_or (parted text) faults.NoScript
  parts_in parts

-- a schedule that was read, wherever its commands lie in memory
abbrev pub schedule_value : {A Z : Type 0} → ConfigValue × Vec (Command A) Z → ConfigValue × List CommandValue
schedule_value schedule = (schedule.0, map command_value schedule.1.items)

-- it is a text of two parts
abbrev pub HasParts : List ℕ → List ℕ × List ℕ → Type 0
HasParts input parts = (is_utf8 input ≡ true) × (parted input ≡ Some parts)

-- a fault of its configuration; memory runs out only where there are two parts
abbrev pub IsNoConfig : List ℕ → ConfigFault → Type 0
IsNoConfig input config_faults.OutOfMemory = (parts : List ℕ × List ℕ) × HasParts input parts
IsNoConfig input why = schedule_of input ≡ Err (faults.Config why)

-- memory ran out in a line of its script: the configuration and the lines before are read without fault. It is refused only where it
-- may be, or where the script tells a Map-Server sites
pub record RunsOutAt (may_refuse : Type 0) (input : List ℕ) (line : ℕ) : Type 0 where
  pub parts : List ℕ × List ℕ
  pub parted : HasParts input parts
  pub may : may_refuse ⊎ HasReload parts.1
  pub config : ConfigValue
  pub configured : config_of (parse_document parts.0) ≡ Ok config
  pub reached : IsReached config parts.1 line

-- a fault of its script
abbrev pub IsNoScript : Type 0 → List ℕ → ℕ → ScriptWhat → Type 0
IsNoScript may_refuse input line Memory = RunsOutAt may_refuse input line
IsNoScript may_refuse input line what = schedule_of input ≡ Err (faults.Script (record { line = line; what = what }))

-- what a fault says of the input: the first thing that is wrong with it, or how far it was read where memory ran out
abbrev pub IsFaulty : Type 0 → List ℕ → PlayFault → Type 0
IsFaulty may_refuse input faults.NotUtf8 = schedule_of input ≡ Err faults.NotUtf8
IsFaulty may_refuse input faults.NoScript = schedule_of input ≡ Err faults.NoScript
IsFaulty may_refuse input (faults.Config why) = IsNoConfig input why
IsFaulty may_refuse input (faults.Script why) = IsNoScript may_refuse input why.line why.what
IsFaulty may_refuse input _ = ⊥

-- A schedule: a configuration and the commands of a script; and what a play of it is.
use Rattle.std.specs.Prelude.{◌≡◌, ◌≢◌, ◌<◌, ◌⊎◌, ℕ, true, false, List, [], length, take, slice_get, Option, Some, Result, Ok, Err, OnOk, IfErr, IfSome, IsErrOf, if◌then◌else◌}
use Rattle.std.specs.FinMap.{empty}
use Rattle.std.specs.List.{AllByRecursion}
use Rattle.std.specs.Io.KnownBytes.{Appends, Keeps}
use Rattle.lisp_records.specs.Result.{◌>>=◌}
use Rattle.lisp_nonces.specs.Memory.{MemoryStoreState}
use Rattle.lisp_nonces.specs.declared.fate.Fate.TheVariants.{Done}
use Rattle.lisp_policy.specs.Configuration.{ConfigValue}
use Rattle.lisp_model.specs.Trace.{ShownStore, Step, Opening}
use Rattle.lisp_refinement.specs.World.{WorldState}
use Rattle.lisp_refinement.specs.Stands.{Stands}
use Rattle.lisp_world.specs.Openings.{repeats, opening}
use Rattle.lisp_world.specs.Making.{IsCalmFault}
use Rattle.lisp_world.specs.Quiet.{AllCalm, stores_of}
use Rattle.lisp_model.specs.declared.world_fault.WorldFault.{WorldFault}
use Rattle.lisp_script.specs.Command.{CommandValue}
use Rattle.lisp_script.specs.declared.play_fault.PlayFault.{PlayFault}
use Rattle.lisp_script.specs.declared.play_fault.PlayFault.TheVariants as faults
use Rattle.lisp_script.specs.Input.{most_bytes}
use Rattle.lisp_lines.specs.Output.{WroteFront}
use Rattle.lisp_script.specs.Schedule.{schedule_of, IsFaulty}
use Rattle.lisp_player.specs.Playing.{Tells, Plays, FailsAsAsked}

-- a network can be made of a schedule: no two nodes are alike
abbrev pub playable : ConfigValue × List CommandValue → Result (ConfigValue × List CommandValue) PlayFault
playable schedule = if repeats schedule.0 then Err (faults.World WorldFault.Repeated) else Ok schedule

unfoldable pub schedule_in : List ℕ → Result (ConfigValue × List CommandValue) PlayFault
schedule_in input = do
  schedule ← schedule_of input
  playable schedule

-- why no network begins over calm stores that keep nothing: two nodes are alike; or memory, where it may be refused
abbrev pub CannotBegin : Type 0 → ConfigValue → WorldFault → Type 0
CannotBegin may_refuse c WorldFault.Repeated = repeats c ≡ true
CannotBegin may_refuse c why = (repeats c ≡ false) × IsCalmFault may_refuse may_refuse why

abbrev pub NotBegun : Type 0 → ConfigValue → PlayFault → Type 0
NotBegun may_refuse c faults.OutOfMemory = may_refuse
NotBegun may_refuse c (faults.World why) = CannotBegin may_refuse c why
NotBegun may_refuse c _ = ⊥

-- why commands aren't played to their end from its beginning
abbrev pub EndsBy : Type 0 → ConfigValue → PlayFault → Type 0
EndsBy may_refuse c faults.Write = Unit {0}
EndsBy may_refuse c fault = NotBegun may_refuse c fault

-- why no network is made of an input
abbrev pub IsUnmade : Type 0 → List ℕ → WorldFault → Type 0
IsUnmade may_refuse input WorldFault.Repeated = schedule_in input ≡ Err (faults.World WorldFault.Repeated)
IsUnmade may_refuse input why = IsCalmFault may_refuse may_refuse why × (schedule : ConfigValue × List CommandValue) × (schedule_in input ≡ Ok schedule)

-- what a fault says of the input: the first thing that is wrong with it; or, where memory may be refused, how far it was read
abbrev pub RefusesInput : Type 0 → List ℕ → PlayFault → Type 0
RefusesInput may_refuse input faults.Read = Unit {0}
RefusesInput may_refuse input faults.Write = Unit {0}
RefusesInput may_refuse input faults.OutOfMemory = may_refuse
RefusesInput may_refuse input faults.TooLong = most_bytes < length input
RefusesInput may_refuse input (faults.World why) = IsUnmade may_refuse input why
RefusesInput may_refuse input fault = IsFaulty may_refuse input fault

-- a fault in which no reader and no writer has a part
abbrev pub IsOfInput : PlayFault → Type 0
IsOfInput faults.Read = ⊥
IsOfInput faults.TooLong = ⊥
IsOfInput faults.Write = ⊥
IsOfInput _ = Unit {0}

-- a store that keeps nothing, whose device never failed, and that does what it is armed with
pub record IsEmpty (s : ShownStore) : Type 0 where
  pub kept : s.kept ≡ empty
  pub faults : s.faults ≡ 0
  pub obedient : s.is_obedient ≡ true

-- a network begins: it stands for its opening, and its stores are empty and calm
pub record Begins (c : ConfigValue) (w : WorldState) : Type 0 where
  pub stands : Stands w (opening c w) []
  pub stores : AllByRecursion IsEmpty (opening c w).stores
  pub calm : AllCalm (stores_of w)

-- the text of commands over a network with empty stores, which fail where an event asks for it and nowhere else
pub record IsPlay (A may_refuse : Type 0) (c : ConfigValue) (orders : List CommandValue) (text : List ℕ) : Type 0 where
  pub opening : Opening
  pub config : opening.config ≡ c
  pub stores : AllByRecursion IsEmpty opening.stores
  pub after : List Step
  pub plays : Plays A may_refuse may_refuse opening [] orders text after
  pub failures : FailsAsAsked opening after

-- what was written is the text of commands, which were played from the beginning
pub record PlayedFrom (A may_refuse : Type 0) (c : ConfigValue) (orders : List CommandValue) (before after : Option (List ℕ)) : Type 0 where
  pub distinct : repeats c ≡ false
  pub text : List ℕ
  pub written : Appends before after text
  pub plays : IsPlay A may_refuse c orders text

-- or of the schedule of an input: of all its commands, or of those that were done
pub record Played (A may_refuse : Type 0) (input : List ℕ) (done : List CommandValue → List CommandValue) (before after : Option (List ℕ)) : Type 0 where
  pub config : ConfigValue
  pub orders : List CommandValue
  pub asked : schedule_in input ≡ Ok (config, orders)
  pub text : List ℕ
  pub written : Appends before after text
  pub plays : IsPlay A may_refuse config (done orders) text

-- out of memory before the first command, or behind some, in another one
abbrev pub StoppedFrom : Type 0 → Type 0 → ConfigValue → List CommandValue → Option (List ℕ) → Option (List ℕ) → Type 0
StoppedFrom A may_refuse c orders before after =
    Keeps before after ⊎ ((count : ℕ) × PlayedFrom A may_refuse c (take count orders) before after × (count < length orders))

abbrev pub Stopped : Type 0 → Type 0 → List ℕ → Option (List ℕ) → Option (List ℕ) → Type 0
Stopped A may_refuse input before after =
    Keeps before after ⊎ ((count : ℕ) × (played : Played A may_refuse input (take count) before after) × (count < length played.orders))

-- behind a trace, a proper front of the text of one of the commands was written, and not the whole
pub record IsCut (A may_refuse : Type 0) (o : Opening) (T : List Step) (orders : List CommandValue) (place : ℕ) (before after : Option (List ℕ)) : Type 0 where
  pub order : CommandValue
  pub there : slice_get orders place ≡ Some order
  pub text : List ℕ
  pub past : List Step
  pub tells : Tells A may_refuse may_refuse o T order text past
  pub failures : FailsAsAsked o past
  pub written : WroteFront before after text

-- so it is of one command, behind the text of those before it, from the beginning; and of those of a schedule
pub record BrokenFrom (A may_refuse : Type 0) (c : ConfigValue) (orders : List CommandValue) (before after : Option (List ℕ)) : Type 0 where
  pub place : ℕ
  pub middle : Option (List ℕ)
  pub played : PlayedFrom A may_refuse c (take place orders) before middle
  pub next : IsCut A may_refuse played.plays.opening played.plays.after orders place middle after

pub record Broken (A may_refuse : Type 0) (input : List ℕ) (before after : Option (List ℕ)) : Type 0 where
  pub place : ℕ
  pub middle : Option (List ℕ)
  pub played : Played A may_refuse input (take place) before middle
  pub next : IsCut A may_refuse played.plays.opening played.plays.after played.orders place middle after

-- In what follows an input is what is left of a reader, where that is known, and `contents` tells what a writer has.
module _ {X W : Type 0} (result : Result X PlayFault) where
  -- all commands were played; those before the one that memory ran out in; those before the one whose text was cut
  abbrev pub Ends : Type 0 → Type 0 → Option (List ℕ) → (W → Option (List ℕ)) → W → W → Type 0
  Ends A may_refuse input contents before after = OnOk result (IfSome input (λ input. Played A may_refuse input (λ orders. orders) (contents before) (contents after)))

  abbrev pub Stops : Type 0 → Type 0 → Option (List ℕ) → (W → Option (List ℕ)) → W → W → Type 0
  Stops A may_refuse input contents before after = IsErrOf result faults.OutOfMemory → IfSome input (λ input. Stopped A may_refuse input (contents before) (contents after))

  abbrev pub Cuts : Type 0 → Type 0 → Option (List ℕ) → (W → Option (List ℕ)) → W → W → Type 0
  Cuts A may_refuse input contents before after = IsErrOf result faults.Write → IfSome input (λ input. Broken A may_refuse input (contents before) (contents after))

-- at all other faults but that of writing nothing was written
abbrev pub IsSilent : PlayFault → Option (List ℕ) → Option (List ℕ) → Type 0
IsSilent fault before after = fault ≢ faults.Write → fault ≢ faults.OutOfMemory → Keeps before after

abbrev pub IsSilentElse : {X W : Type 0} → Result X PlayFault → (W → Option (List ℕ)) → W → W → Type 0
IsSilentElse result contents before after = IfErr result (λ fault. IsSilent fault (contents before) (contents after))

-- a fault says of an input why it is refused
abbrev pub Refuses : {X : Type 0} → Result X PlayFault → Type 0 → Option (List ℕ) → Type 0
Refuses result may_refuse input = IfErr result (λ fault. IfSome input (λ input. RefusesInput may_refuse input fault))

-- a store in memory that keeps nothing and never failed
abbrev pub fresh : MemoryStoreState
fresh = record { kept = empty; faults = 0; fate = Done }

-- What is drawn of an input.
use Rattle.std.specs.Prelude.{◌≡◌, ◌≢◌, ℕ, List, [], length, Option, Some, Result, Ok, OnOk, IfErr, IfSome}
use Rattle.std.specs.Io.KnownBytes.{Appends, Keeps}
use Rattle.lisp_policy.specs.Configuration.{ConfigValue}
use Rattle.lisp_script.specs.Command.{CommandValue}
use Rattle.lisp_script.specs.declared.play_fault.PlayFault.{PlayFault}
use Rattle.lisp_script.specs.declared.play_fault.PlayFault.TheVariants as faults
use Rattle.lisp_player.specs.declared.outcome.Outcome.{Outcome}
use Rattle.lisp_player.specs.Outcomes.{OutcomesFrom, texts}
use Rattle.lisp_player.specs.Schedule.{Played, schedule_in}
use Rattle.lisp_picture.specs.declared.drawing.Form.{Form}
use Rattle.lisp_picture.specs.Picture.{IsPicture, texts_of}

-- what was written is a picture of the schedule of an input: of an outcome of each of its commands, whose lines are those
-- that a play of it prints. Each outcome is that of its own command, after those before it
pub record Draws (A may_refuse : Type 0) (form : Form) (input : List ℕ) (before after : Option (List ℕ)) : Type 0 where
  pub config : ConfigValue
  pub orders : List CommandValue
  pub asked : schedule_in input ≡ Ok (config, orders)
  pub outcomes : List (Outcome A)
  pub counts : length outcomes ≡ length orders
  pub each : OutcomesFrom A may_refuse config orders outcomes
  pub played : Played A may_refuse input (λ orders. orders) (Some []) (Some (texts outcomes))
  pub picture : List ℕ
  pub drawn : IsPicture form (texts_of outcomes) picture
  pub written : Appends before after picture

-- at Ok that is so of what was left of a reader, where that is known
abbrev pub IsDrawn : {X W : Type 0} → Result X PlayFault → Type 0 → Type 0 → Form → Option (List ℕ) → (W → Option (List ℕ)) → W → W → Type 0
IsDrawn result A may_refuse form input contents before after = OnOk result (IfSome input (λ input. Draws A may_refuse form input (contents before) (contents after)))

-- at all faults but that of writing nothing was written
abbrev pub IsSilent : {X W : Type 0} → Result X PlayFault → (W → Option (List ℕ)) → W → W → Type 0
IsSilent result contents before after = IfErr result (λ fault. fault ≢ faults.Write → Keeps (contents before) (contents after))

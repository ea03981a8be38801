-- What commands came to.
use Rattle.std.specs.Prelude.{◌≡◌, ℕ, min, length, List, [], ◌∷◌, Option, Some, None, Result, IfOk, IfSome, string_bytes}
use Rattle.std.specs.List.{AllByRecursion, flat_map}
use Rattle.lisp_model.specs.Trace.{Step, Opening}
use Rattle.lisp_model.specs.declared.line.Line.{Line}
use Rattle.lisp_refinement.specs.World.{WorldState}
use Rattle.lisp_policy.specs.Configuration.{ConfigValue}
use Rattle.lisp_lines.specs.declared.datagram_place.DatagramPlace.TheVariants.{Shown}
use Rattle.lisp_lines.specs.declared.wording.Wording.TheVariants.{Schedule}
use Rattle.lisp_lines.specs.Line.{line_text}
use Rattle.lisp_script.specs.declared.command.Command.{Command}
use Rattle.lisp_script.specs.Command.{CommandValue, command_value}
use Rattle.lisp_player.specs.declared.outcome.Outcome.{Outcome}
use Rattle.lisp_player.specs.Playing.{Tells, Moves, FailsAsAsked}
use Rattle.lisp_player.specs.Schedule.{IsEmpty}

-- the texts of commands, one after the other: what a play of them prints
abbrev pub texts : {A : Type 0} → List (Outcome A) → List ℕ
texts outcomes = flat_map (λ o. string_bytes o.text) outcomes

-- what the event came to is what the text tells
abbrev pub TellsLine : {A : Type 0} → ConfigValue → Outcome A → Type 0
TellsLine c outcome = IfSome outcome.line (λ line. string_bytes outcome.text ≡ line_text c (Schedule Shown) line)

-- of what a store keeps an outcome lists all that it counts, four at most
abbrev pub ListsKept : {A : Type 0} → Outcome A → Type 0
ListsKept outcome = length outcome.kept.items ≡ min 4 outcome.kept_count

-- the line of the step that a trace gained; None where it gained none
abbrev pub IsLine : List Step → List Step → Option Line → Type 0
IsLine T after (Some line) = (step : Step) × (after ≡ step ∷ T) × (step.line ≡ line)
IsLine T after None = after ≡ T

-- the outcome of a command after a trace: its text, and its line, which is there where the network took an event
abbrev pub IsOutcome : {Z : Type 0} → Type 0 → Type 0 → Type 0 → Opening → List Step → CommandValue → Outcome Z → List Step → Type 0
IsOutcome A nodes stores o T order outcome after = Tells A nodes stores o T order (string_bytes outcome.text) after × IsLine T after outcome.line

-- the outcomes of commands: one for each, in their order
abbrev pub AreOutcomes : {Z : Type 0} → Type 0 → Type 0 → Type 0 → Opening → List Step → List CommandValue → List (Outcome Z) → List Step → Type 0
AreOutcomes A nodes stores o T [] [] after = after ≡ T
AreOutcomes A nodes stores o T (order ∷ orders) (outcome ∷ outcomes) after = (next : List Step) × IsOutcome A nodes stores o T order outcome next × AreOutcomes A nodes stores o next orders outcomes after
AreOutcomes A nodes stores o T _ _ after = ⊥

-- at Ok that is the outcome of a command, and where it led the network; and the outcomes of commands
abbrev pub Leads : {F E Z : Type 0} → Result (Outcome Z) E → Type 0 → Type 0 → Type 0 → WorldState → WorldState → ConfigValue → Command F → Type 0
Leads result A nodes stores old new c command = IfOk result (λ outcome. Moves old new c (λ o T after. IsOutcome A nodes stores o T (command_value command) outcome after))

abbrev pub OutcomesLead : {Z : Type 0} → Type 0 → Type 0 → Type 0 → WorldState → WorldState → ConfigValue → List CommandValue → List (Outcome Z) → Type 0
OutcomesLead A nodes stores old new c orders outcomes = Moves old new c (λ o T after. AreOutcomes A nodes stores o T orders outcomes after)

-- the outcomes of commands that were played from the beginning of a network, over empty stores
pub record OutcomesFrom {Z : Type 0} (A may_refuse : Type 0) (c : ConfigValue) (orders : List CommandValue) (outcomes : List (Outcome Z)) : Type 0 where
  pub opening : Opening
  pub config : opening.config ≡ c
  pub stores : AllByRecursion IsEmpty opening.stores
  pub after : List Step
  pub each : AreOutcomes A may_refuse may_refuse opening [] orders outcomes after
  pub failures : FailsAsAsked opening after

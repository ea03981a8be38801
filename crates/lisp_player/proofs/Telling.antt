-- What commands come to, one after the other.
use Rattle.std.proofs.Common.{◌≡◌, ℕ, suc, ◌+◌, ◌<◌, List, [], ◌∷◌, ◌++◌, length, map, take, get_or, Some, refl, sym, ap, subst, ◌∙◌, append-nil, arith}
use Rattle.std.specs.Prelude.{All, string_bytes}
use Rattle.std.proofs.lemmas.Grind.{flat_map-append}
use Rattle.std.proofs.lemmas.List.Elements.{All-push}
use Rattle.lisp_policy.specs.Configuration.{ConfigValue}
use Rattle.lisp_model.specs.Trace.{Step, Opening}
use Rattle.lisp_refinement.specs.World.{WorldState}
use Rattle.lisp_world.specs.Openings.{opening}
use Rattle.lisp_script.specs.declared.command.Command.{Command}
use Rattle.lisp_script.specs.Command.{CommandValue, command_value}
use Rattle.lisp_script.specs.Schedule.{IsFaulty}
use Rattle.lisp_script.specs.declared.play_fault.PlayFault.{PlayFault}
use Rattle.lisp_script.specs.declared.play_fault.PlayFault.TheVariants as faults
use Rattle.lisp_player.specs.declared.outcome.Outcome.{Outcome}
use Rattle.lisp_player.specs.Outcomes.{texts, IsOutcome, AreOutcomes, OutcomesLead, OutcomesFrom}
use Rattle.lisp_player.specs.Playing.{Moves, CommandLeads, Wrote}
use Rattle.lisp_player.specs.Schedule.{IsOfInput, NotBegun, Begins}
use Rattle.lisp_player.proofs.Leading.{wrote_next, next_order}
use Rattle.lisp_player.proofs.Taking.{stays}

-- behind some outcomes comes another
module _ {X : Type 0} (before after : List (Outcome X)) (outcome : Outcome X) (pushed : after ≡ before ++ outcome ∷ []) where
  texts_next : texts after ≡ texts before ++ string_bytes outcome.text
  texts_next = ap texts pushed ∙ flat_map-append (λ (o : Outcome X). string_bytes o.text) before (outcome ∷ []) ∙ ap (λ (last : List ℕ). texts before ++ last) (append-nil (string_bytes outcome.text))

  pub all_next : (P : Outcome X → Type 0) → All P before → P outcome → All P after
  all_next P all last = subst (λ (outcomes : List (Outcome X)). All P outcomes) (sym pushed) (All-push P before outcome all last)

  pub told_next : {F : Type 0} (A N S : Type 0) (old mid new : WorldState) (c : ConfigValue) (commands : List (Command F)) (i : ℕ) (command : Command F)
      → i < length commands → command ≡ get_or commands i command → Wrote A N S old mid c (take i (map command_value commands)) (Some []) (Some (texts before))
      → CommandLeads A N S mid new c (command_value command) (string_bytes outcome.text) → Wrote A N S old new c (take (i + 1) (map command_value commands)) (Some []) (Some (texts after))
  told_next A N S old mid new c commands i command within read first turns = wrote_next A N S old mid new c commands i command (Some []) (Some (texts before)) (Some (texts after)) within read first
      (record { text = string_bytes outcome.text; written = texts_next; turns = turns })

-- what some commands came to, and one behind them
module _ {Z : Type 0} (A N S : Type 0) (o : Opening) (middle last : List Step) (order : CommandValue) (outcome : Outcome Z) (second : IsOutcome A N S o middle order outcome last) where
  pub outcomes_more : (orders : List CommandValue) (outcomes : List (Outcome Z)) (T : List Step) → AreOutcomes A N S o T orders outcomes middle → AreOutcomes A N S o T (orders ++ order ∷ []) (outcomes ++ outcome ∷ []) last
  outcomes_more [] [] T same = (last, subst (λ (U : List Step). IsOutcome A N S o U order outcome last) same second, refl)
  outcomes_more (first ∷ orders) (was ∷ outcomes) T (next, is, others) = (next, is, outcomes_more orders outcomes next others)
  outcomes_more [] (was ∷ outcomes) T none = absurd none
  outcomes_more (first ∷ orders) [] T none = absurd none

-- no commands lead nowhere
pub no_outcomes : (w : WorldState) (c : ConfigValue) → Moves w w c (λ o T after. after ≡ T)
no_outcomes w c = stays w w c _ refl (λ o T stand config. refl)

module _ {Z : Type 0} (A N S : Type 0) (c : ConfigValue) where
  -- some led the network somewhere, and one more from there
  outcomes_lead_more : (old mid new : WorldState) (orders : List CommandValue) (outcomes : List (Outcome Z)) (last : CommandValue) (outcome : Outcome Z) → OutcomesLead A N S old mid c orders outcomes
      → Moves mid new c (λ o T after. IsOutcome A N S o T last outcome after) → OutcomesLead A N S old new c (orders ++ last ∷ []) (outcomes ++ outcome ∷ [])
  outcomes_lead_more old mid new orders outcomes last outcome first second = record {
    calm = λ calm. second.calm (first.calm calm);
    comes = λ o T stand config. (
        let led = first.comes o T stand config in
        let turned = second.comes o led.after led.stands config in
        record {
          after = turned.after;
          told = outcomes_more A N S o led.after turned.after last outcome turned.told orders outcomes T led.told;
          stands = turned.stands;
          failures = λ calm asked. turned.failures (first.calm calm) (led.failures calm asked);
        });
  }

  -- behind some commands comes the next one
  pub outcomes_next : {F : Type 0} (before after : List (Outcome Z)) (outcome : Outcome Z) → after ≡ before ++ outcome ∷ [] → (old mid new : WorldState) (commands : List (Command F)) (i : ℕ) (command : Command F)
      → i < length commands → command ≡ get_or commands i command → OutcomesLead A N S old mid c (take i (map command_value commands)) before
      → Moves mid new c (λ o T after. IsOutcome A N S o T (command_value command) outcome after) → OutcomesLead A N S old new c (take (i + 1) (map command_value commands)) after
  outcomes_next before after outcome pushed old mid new commands i command within read first second =
      let next : suc i ≡ i + 1 = omega arith in
      let orders = ap (λ (n : ℕ). take n (map command_value commands)) (sym next) ∙ next_order A N S c commands i command within read in
      subst (λ (all : List CommandValue). OutcomesLead A N S old new c all after) (sym orders)
      (subst (λ (all : List (Outcome Z)). OutcomesLead A N S old new c (take i (map command_value commands) ++ command_value command ∷ []) all) (sym pushed)
      (outcomes_lead_more old mid new (take i (map command_value commands)) before (command_value command) outcome first second))

-- from the beginning of a network
pub outcomes_from : {Z : Type 0} (A M : Type 0) (c : ConfigValue) (w new : WorldState) (orders : List CommandValue) (outcomes : List (Outcome Z)) → Begins c w
    → OutcomesLead A M M w new c orders outcomes → OutcomesFrom A M c orders outcomes
outcomes_from A M c w new orders outcomes begins leads =
    let led = leads.comes (opening c w) [] begins.stands refl in
    record { opening = opening c w; config = refl; stores = begins.stores; after = led.after; each = led.told; failures = led.failures begins.calm tt }

-- neither an input that is no schedule nor a network that doesn't begin is a fault of a reader or a writer
pub faulty_of_input : (may : Type 0) (input : List ℕ) (fault : PlayFault) → IsFaulty may input fault → IsOfInput fault
faulty_of_input may input faults.Read why = absurd why
faulty_of_input may input faults.TooLong why = absurd why
faulty_of_input may input faults.Write why = absurd why
faulty_of_input may input faults.OutOfMemory why = tt
faulty_of_input may input faults.NotUtf8 why = tt
faulty_of_input may input faults.NoScript why = tt
faulty_of_input may input (faults.Config fault) why = tt
faulty_of_input may input (faults.Script fault) why = tt
faulty_of_input may input (faults.World fault) why = tt

pub begun_of_input : (may : Type 0) (c : ConfigValue) (fault : PlayFault) → NotBegun may c fault → IsOfInput fault
begun_of_input may c faults.Read why = absurd why
begun_of_input may c faults.TooLong why = absurd why
begun_of_input may c faults.Write why = absurd why
begun_of_input may c faults.OutOfMemory why = tt
begun_of_input may c faults.NotUtf8 why = tt
begun_of_input may c faults.NoScript why = tt
begun_of_input may c (faults.Config fault) why = tt
begun_of_input may c (faults.Script fault) why = tt
begun_of_input may c (faults.World fault) why = tt

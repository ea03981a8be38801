-- A network takes one command.
use Rattle.std.proofs.Common.{◌≡◌, ℕ, List, ◌∷◌, Option, Some, None, Result, Ok, Err, refl, sym, ap, subst, ◌∙◌, inl, inr}
use Rattle.std.specs.Prelude.{OnOk, OnErr}
use Rattle.lisp_records.specs.declared.address.Addr.{Addr}
use Rattle.lisp_records.specs.Address.{PrefixValue}
use Rattle.lisp_policy.specs.Configuration.{ConfigValue}
use Rattle.lisp_model.specs.Trace.{EventValue, Step, Opening, fate_of}
use Rattle.lisp_model.specs.Memory.{MayTell}
use Rattle.lisp_model.specs.declared.line.Line.{Line}
use Rattle.lisp_refinement.specs.World.{WorldState}
use Rattle.lisp_refinement.specs.Stands.{Stands, StandsAfter}
use Rattle.lisp_world.specs.Faults.{Faults, fault_of}
use Rattle.lisp_world.specs.Quiet.{AllCalm, stores_of, KeepsCalm}
use Rattle.lisp_model.specs.declared.world_fault.WorldFault.{WorldFault}
use Rattle.lisp_model.specs.declared.world_fault.WorldFault.TheVariants.{OutOfMemory}
use Rattle.lisp_lines.specs.declared.datagram_place.DatagramPlace.TheVariants.{Shown}
use Rattle.lisp_lines.specs.declared.wording.Wording.TheVariants.{Schedule}
use Rattle.lisp_lines.specs.Line.{line_text}
use Rattle.lisp_script.specs.declared.command.Command.TheVariants.{Act, Hold, Acks, Ask, Request, Due}
use Rattle.lisp_script.specs.declared.command.Command.{Command}
use Rattle.lisp_script.specs.Command.{CommandValue, command_value}
use Rattle.lisp_player.specs.Asked.{OfTraces, Holds, Asks, Requests, Acknowledges, IsDue, fault_text}
use Rattle.lisp_player.specs.Playing.{IsFaultOf, Tells, Moves, CommandLeads, Loses}
use Rattle.lisp_player.specs.Outcomes.{IsLine}
use Rattle.lisp_player.proofs.Failures.{none_failed}

-- a network that is as it was
pub stays : (old new : WorldState) (c : ConfigValue) (Tell : Opening → List Step → List Step → Type 0) → new ≡ old → OfTraces old c (λ o T. Tell o T T) → Moves old new c Tell
stays old new c Tell same told = record {
  calm = λ calm. subst (λ (w : WorldState). AllCalm (stores_of w)) (sym same) calm;
  comes = λ o T stand config. record {
    after = T;
    told = told o T stand config;
    stands = subst (λ (w : WorldState). Stands w o T) (sym same) stand;
    failures = λ calm asked. asked;
  };
}

-- a command's text and its line, and where it led the network; and that without the line
abbrev pub Told : Type 0 → Type 0 → Type 0 → WorldState → WorldState → ConfigValue → CommandValue → List ℕ → Option Line → Type 0
Told A N S old new c order text line = Moves old new c (λ o T after. Tells A N S o T order text after × IsLine T after line)

pub text_leads : (A N S : Type 0) (old new : WorldState) (c : ConfigValue) (order : CommandValue) (text : List ℕ) (line : Option Line) → Told A N S old new c order text line → CommandLeads A N S old new c order text
text_leads A N S old new c order text line told = record {
  calm = told.calm;
  comes = λ o T stand config. (
      let led = told.comes o T stand config in
      record { after = led.after; told = led.told.0; stands = led.stands; failures = led.failures });
}

module _ (A N S : Type 0) (old new : WorldState) (c : ConfigValue) (text : List ℕ) where
  -- an event is taken
  pub event_taken : (event : EventValue) (line : Line) → StandsAfter old new event line → MayTell N S line → KeepsCalm old new (fate_of event) → text ≡ line_text c (Schedule Shown) line → Told A N S old new c (Act event) text (Some line)
  event_taken event line after tells keeps is = record {
    calm = keeps.calm;
    comes = λ o T stand config. (
        let its = after o T stand in
        let s : Step = record { event = event; line = line; actor = its.0; shown = its.1 } in
        record {
          after = s ∷ T;
          told = (inl (record { step = s; of = refl; legal = its.2.steps.legal.0; tells = tells; said = is ∙ ap (λ (c : ConfigValue). line_text c (Schedule Shown) line) (sym config); next = refl }), (s, refl, refl));
          stands = its.2;
          failures = λ calm asked. (λ done node within. none_failed old new o T s stand its.2 (keeps.unfailing calm done) node within, asked);
        });
  }

  -- an event is not taken
  pub event_refused : (X : Type 0) (event : EventValue) (fault : WorldFault) → new ≡ old → Faults {X = X} (fault_of old event) (Err fault) → (fault ≡ OutOfMemory → N) → text ≡ fault_text fault → Told A N S old new c (Act event) text None
  event_refused X event fault same faulty memory is = stays old new c _ same
      (λ o T stand config. (inr (record { fault = fault; why = why o T stand (fault_of old event) refl faulty; said = is; same = refl }), refl))
    where
      why : (o : Opening) (T : List Step) → Stands old o T → (known : Option WorldFault) → fault_of old event ≡ known → Faults {X = X} known (Err fault) → IsFaultOf N o T event fault
      why o T stand (Some other) is_known refused = inl (old, stand, is_known ∙ ap Some (sym (same_fault other refused)))
        where
          same_fault : (other : WorldFault) → ◌≡◌ {A = Result X WorldFault} (Err fault) (Err other) → fault ≡ other
          same_fault other e = cc
      why o T stand None is_known refused = inr (refused, memory refused)

module _ (A N S : Type 0) (old new : WorldState) (c : ConfigValue) (text : List ℕ) (same : new ≡ old) where
  -- a query leaves the network as it was
  pub hold_turns : (server : ℕ) → OfTraces old c (λ o T. Holds o T server text) → Told A N S old new c (Hold server) text None
  hold_turns server told = stays old new c _ same (λ o T stand config. ((told o T stand config, refl), refl))

  pub acks_turns : (router : ℕ) → OfTraces old c (λ o T. Acknowledges o T router text) → Told A N S old new c (Acks router) text None
  acks_turns router told = stays old new c _ same (λ o T stand config. ((told o T stand config, refl), refl))

  pub ask_turns : (server : ℕ) (addr : Addr) → OfTraces old c (λ o T. Asks A o T server addr text) → Told A N S old new c (Ask server addr) text None
  ask_turns server addr told = stays old new c _ same (λ o T stand config. ((told o T stand config, refl), refl))

  pub request_turns : (server : ℕ) (asked : PrefixValue) (from : Option Addr) → OfTraces old c (λ o T. Requests A o T server asked from text) → Told A N S old new c (Request server asked from) text None
  request_turns server asked from told = stays old new c _ same (λ o T stand config. ((told o T stand config, refl), refl))

  pub due_turns : (node : ℕ) → OfTraces old c (λ o T. IsDue o T node text) → Told A N S old new c (Due node) text None
  due_turns node told = stays old new c _ same (λ o T stand config. ((told o T stand config, refl), refl))

-- an event is taken, whose text is lost
pub event_loses : (A N S : Type 0) (old new : WorldState) (c : ConfigValue) (event : EventValue) (line : Line) → StandsAfter old new event line → MayTell N S line → KeepsCalm old new (fate_of event) → Loses A N S old new c (Act event)
event_loses A N S old new c event line after tells keeps =
    let text = line_text c (Schedule Shown) line in
    inr (text, text_leads A N S old new c (Act event) text (Some line) (event_taken A N S old new c text event line after tells keeps refl))

-- a command, wherever its parts lie in memory
pub as_order : {F : Type 0} (A N S : Type 0) (old new : WorldState) (c : ConfigValue) (text : List ℕ) (line : Option Line) (command : Command F) (o : CommandValue) → command_value command ≡ o
    → Told A N S old new c o text line → Told A N S old new c (command_value command) text line
as_order A N S old new c text line command o is told = subst (λ (o : CommandValue). Told A N S old new c o text line) (sym is) told

pub lost_order : {F : Type 0} (A N S : Type 0) (old new : WorldState) (c : ConfigValue) (command : Command F) (o : CommandValue) → command_value command ≡ o → Loses A N S old new c o → Loses A N S old new c (command_value command)
lost_order A N S old new c command o is loses = subst (λ (o : CommandValue). Loses A N S old new c o) (sym is) loses

-- what is said of a result says more
pub at_ok : {X E : Type 0} (r : Result X E) (P Q : Type 0) → (P → Q) → OnOk r P → OnOk r Q
at_ok (Ok x) P Q more holds = more holds
at_ok (Err why) P Q more holds = holds

pub on_err : {X E : Type 0} (r : Result X E) (P : Type 0) → P → OnErr r P
on_err (Ok x) P holds = tt
on_err (Err why) P holds = holds

pub err_more : {X E : Type 0} (r : Result X E) (P Q : Type 0) → (P → Q) → OnErr r P → OnErr r Q
err_more (Ok x) P Q more holds = tt
err_more (Err why) P Q more holds = more holds

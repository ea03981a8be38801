-- A network takes commands, one after the other.
use Rattle.std.proofs.Common.{◌≡◌, ℕ, suc, ◌+◌, ◌<◌, List, [], ◌∷◌, ◌++◌, length, map, take, get_or, slice_get, Option, Some, None, Result, Ok, Err, refl, sym, ap, subst, ◌∙◌, append-nil, append_assoc, arith}
use Rattle.std.proofs.Math.Seq.{take-suc}
use Rattle.std.proofs.lemmas.List.{get_or-map, length-map}
use Rattle.std.specs.Option.{option_map}
use Rattle.std.proofs.lemmas.Option.{slice_get-map, slice_get-get_or}
use Rattle.std.specs.Io.KnownBytes.{Appends, Keeps}
use Rattle.std.specs.Prelude.{IfErr, OnErr}
use Rattle.lisp_script.specs.declared.play_fault.PlayFault.{PlayFault}
use Rattle.lisp_script.specs.declared.play_fault.PlayFault.TheVariants.{OutOfMemory, Write}
use Rattle.lisp_policy.specs.Configuration.{ConfigValue}
use Rattle.lisp_model.specs.Trace.{Step, Opening}
use Rattle.lisp_refinement.specs.World.{WorldState}
use Rattle.lisp_script.specs.declared.command.Command.{Command}
use Rattle.lisp_script.specs.Command.{CommandValue, command_value}
use Rattle.lisp_player.specs.Playing.{Tells, Plays, CommandLeads, CommandsLead, Loses, WroteOne, Wrote, StopsAt, BreaksOne, Breaks}
use Rattle.lisp_player.proofs.Taking.{stays}

-- what ended well has no fault; what is so at a fault; and one that can only be that of writing is not want of memory
module _ {X P : Type 0} where
  pub no_fault : (x : X) (fault : PlayFault) → ◌≡◌ {A = Result X PlayFault} (Ok x) (Err fault) → P
  no_fault x fault clash = absurd cc

  pub of_err : {fault : PlayFault} (r : Result X PlayFault) → r ≡ Err fault → OnErr r P → P
  of_err (Ok x) clash holds = absurd cc
  of_err (Err other) is holds = holds

  pub only_write : (r : Result X PlayFault) → IfErr r (λ fault. fault ≡ Write) → r ≡ Err OutOfMemory → P
  only_write (Ok x) is clash = absurd cc
  only_write (Err fault) is clash = absurd cc

module _ (A N S : Type 0) (o : Opening) (middle last : List Step) (more : List ℕ) (command_value : CommandValue) (second : Tells A N S o middle command_value more last) where
  -- commands, and one behind them
  pub plays_more : (orders : List CommandValue) (T : List Step) (text : List ℕ) → Plays A N S o T orders text middle → Plays A N S o T (orders ++ command_value ∷ []) (text ++ more) last
  plays_more [] T text (none, same) = record {
    told = more;
    next = last;
    rest = [];
    said = ap (λ (t : List ℕ). t ++ more) none ∙ sym (append-nil more);
    first = subst (λ (U : List Step). Tells A N S o U command_value more last) same second;
    others = (refl, refl);
  }
  plays_more (first ∷ orders) T text plays = record {
    told = plays.told;
    next = plays.next;
    rest = plays.rest ++ more;
    said = ap (λ (t : List ℕ). t ++ more) plays.said ∙ append_assoc plays.told plays.rest more;
    first = plays.first;
    others = plays_more orders plays.next plays.rest plays.others;
  }

module _ (A N S : Type 0) (c : ConfigValue) where
  -- no commands lead nowhere
  pub leads_nowhere : (w : WorldState) → CommandsLead A N S w w c [] []
  leads_nowhere w = stays w w c _ refl (λ o T stand config. (refl, refl))

  -- commands led the network somewhere, and one more from there
  pub leads_more : (old mid new : WorldState) (orders : List CommandValue) (last : CommandValue) (text more : List ℕ)
      → CommandsLead A N S old mid c orders text → CommandLeads A N S mid new c last more → CommandsLead A N S old new c (orders ++ last ∷ []) (text ++ more)
  leads_more old mid new orders last text more first second = record {
    calm = λ calm. second.calm (first.calm calm);
    comes = λ o T stand config. (
        let led = first.comes o T stand config in
        let turned = second.comes o led.after led.stands config in
        record {
          after = turned.after;
          told = plays_more A N S o led.after turned.after more last turned.told orders T text led.told;
          stands = turned.stands;
          failures = λ calm asked. turned.failures (first.calm calm) (led.failures calm asked);
        });
  }

  -- the commands up to one, and that one
  module _ {F : Type 0} (commands : List (Command F)) (i : ℕ) (command : Command F) (within : i < length commands) (read : command ≡ get_or commands i command) where
    pub next_order : take (suc i) (map command_value commands) ≡ take i (map command_value commands) ++ command_value command ∷ []
    next_order =
        let low : i < length (map command_value commands) = subst (λ (n : ℕ). i < n) (sym (length-map commands command_value)) within in
        let there : get_or (map command_value commands) i (command_value command) ≡ command_value command = get_or-map command_value commands i command (command_value command) within ∙ sym (ap command_value read) in
        take-suc (map command_value commands) i (command_value command) low ∙ ap (λ (last : CommandValue). take i (map command_value commands) ++ last ∷ []) there

    pub leads_next : (old mid new : WorldState) (text more : List ℕ) → CommandsLead A N S old mid c (take i (map command_value commands)) text
        → CommandLeads A N S mid new c (command_value command) more → CommandsLead A N S old new c (take (suc i) (map command_value commands)) (text ++ more)
    leads_next old mid new text more first second = subst (λ (orders : List CommandValue). CommandsLead A N S old new c orders (text ++ more)) (sym next_order)
        (leads_more old mid new (take i (map command_value commands)) (command_value command) text more first second)

-- texts that were written one after the other
appends_more : (old mid new : Option (List ℕ)) (text more : List ℕ) → Appends old mid text → Appends mid new more → Appends old new (text ++ more)
appends_more None mid new text more first second = tt
appends_more (Some old) None new text more first second = absurd first
appends_more (Some old) (Some mid) None text more first second = absurd second
appends_more (Some old) (Some mid) (Some new) text more first second = second ∙ ap (λ (t : List ℕ). t ++ more) first ∙ append_assoc old text more

-- and then no more
appends_kept : (old mid new : Option (List ℕ)) (text : List ℕ) → Appends old mid text → Keeps mid new → Appends old new text
appends_kept None mid new text first keeps = tt
appends_kept (Some old) None new text first keeps = absurd first
appends_kept (Some old) (Some mid) None text first keeps = absurd keeps
appends_kept (Some old) (Some mid) (Some new) text first keeps = keeps ∙ first

-- nothing was written
appends_nothing : (before : Option (List ℕ)) → Appends before before []
appends_nothing None = tt
appends_nothing (Some bytes) = sym (append-nil bytes)

-- before the first command
pub wrote_none : (A N S : Type 0) (w : WorldState) (c : ConfigValue) (before : Option (List ℕ)) → Wrote A N S w w c [] before before
wrote_none A N S w c before = record { text = []; written = appends_nothing before; leads = leads_nowhere A N S c w }

-- behind some commands comes the next one
module _ {F : Type 0} (A N S : Type 0) (old mid new : WorldState) (c : ConfigValue) (commands : List (Command F)) (i : ℕ) (command : Command F) (before middle after : Option (List ℕ))
    (within : i < length commands) (read : command ≡ get_or commands i command) (first : Wrote A N S old mid c (take i (map command_value commands)) before middle) where
  -- its text is written
  pub wrote_next : WroteOne A N S mid new c (command_value command) middle after → Wrote A N S old new c (take (i + 1) (map command_value commands)) before after
  wrote_next one =
      let next : suc i ≡ i + 1 = omega arith in
      subst (λ (n : ℕ). Wrote A N S old new c (take n (map command_value commands)) before after) next (record {
        text = first.text ++ one.text;
        written = appends_more before middle after first.text one.text first.written one.written;
        leads = leads_next A N S c commands i command within read old mid new first.text one.text first.leads one.turns;
      })

  -- it is one of the commands
  there : slice_get (map command_value commands) i ≡ Some (command_value command)
  there = slice_get-map command_value commands i ∙ ap (option_map command_value) (slice_get-get_or commands i command within ∙ ap Some (sym read))

  -- out of memory
  pub stops_next : Keeps middle after → Loses A N S mid new c (command_value command) → StopsAt A N S old new c (map command_value commands) before after
  stops_next keeps lost = record {
    place = i;
    order = command_value command;
    there = there;
    between = mid;
    wrote = record { text = first.text; written = appends_kept before middle after first.text first.written keeps; leads = first.leads };
    lost = lost;
  }

  -- its text can't be written whole
  pub breaks_next : BreaksOne A N S mid new c (command_value command) middle after → Breaks A N S old new c (map command_value commands) before after
  breaks_next one = record { place = i; order = command_value command; there = there; between = mid; middle = middle; wrote = first; next = one }

-- What is due is done, act by act.
use Rattle.std.proofs.Common.{◌≡◌, ℕ, ◌+◌, Bool, true, false, [], ◌∷◌, ◌++◌, refl, sym, subst, ◌∙◌, inl, inr, arith}
use Rattle.std.specs.Prelude.{◌≢◌}
use Rattle.std.specs.List.{All, AllByRecursion, AllPairs}
use Rattle.std.proofs.lemmas.List.Elements.{All-cons}
use Rattle.std.proofs.lemmas.List.Kept.{AllPairs-cons}
use Rattle.lisp_policy.specs.Configuration.{ConfigValue}
use Rattle.lisp_nonces.specs.declared.fate.Fate.TheVariants.{Done}
use Rattle.lisp_model.specs.declared.event.Event.TheVariants as events
use Rattle.lisp_model.specs.declared.line.Line.{Line}
use Rattle.lisp_model.specs.Trace.{EventValue}
use Rattle.lisp_turns.specs.Act.{ActValue}
use Rattle.lisp_turns.specs.Acts.{TurnAct, DoesAll, printed_of, send_calls, acts_calls}
use Rattle.lisp_turns.specs.Due.{DoesDuty, IsDuty, IsSend, IsResend, IsRefused, SendsDue, ResendsDue}
use Rattle.lisp_turns.specs.Node.{NodeState}
use Rattle.lisp_turns.specs.Outside.{OutsideState, Prints}
use Rattle.lisp_turns.specs.Pause.{is_told, failed}
use Rattle.lisp_turns.specs.Requests.{ResolvingValue}
use Rattle.lisp_turns.specs.Stretch.{Asks, Tells, HasServed, ServesDue}
use Rattle.lisp_turns.specs.declared.outside.Printed.{Printed}
use Rattle.lisp_turns.specs.declared.outside.Printed.TheVariants as printed
use Rattle.lisp_turns.specs.declared.pause.Pause.{Pause}
use Rattle.lisp_turns.proofs.Asking.{asks_then}

-- what is due has the line of an event
event_line : (number : ℕ) (event : EventValue) (line : Line) → IsDuty number event → printed_of event line ≡ printed.Event line
event_line number (events.Send router server part Done) line duty = refl
event_line number (events.Resend server router) line duty = refl
event_line number _ line duty = absurd duty

-- an act was told
pub act_told : {s after : OutsideState} {act same : ActValue} → act ≡ same → Tells s after (printed.Event act.line) act.message → Tells s after (printed.Event same.line) same.message
act_told {s} {after} is tells = subst (λ (a : ActValue). Tells s after (printed.Event a.line) a.message) is tells

-- two acts aren't the same Map-Register
abbrev Differ : TurnAct → TurnAct → Type 0
Differ a b = IsSend a.event → a.event ≢ b.event

module _ (A : Type 0) (config : ConfigValue) (number : ℕ) where
  module _ (old : NodeState) (now : ℕ) where
    module _ (between new : NodeState) (count : ℕ) (before s after : OutsideState) (act : ActValue)
        (so_far : HasServed A config number old between now count before s) (does : DoesDuty A config number between new now act) where
      -- the act, told or not
      abbrev this : Bool → Bool → TurnAct
      this told taken = record { event = does.event; act = act; told = told; taken = taken }

      -- no earlier act is the same Map-Register
      fresh : (told taken : Bool) → All (Differ (this told taken)) so_far.served
      fresh told taken = λ i d within send same.
          so_far.spent i d within (subst (λ (e : EventValue). SendsDue between number now e) same (does.was_due send))

      once_more : (told taken : Bool) → AllPairs Differ (this told taken ∷ so_far.served)
      once_more told taken = AllPairs-cons Differ (this told taken) so_far.served (fresh told taken) so_far.once

      -- it was due before them all
      due_more : (told taken : Bool) → AllByRecursion (λ a. IsSend a.event → SendsDue old number now a.event) (this told taken ∷ so_far.served)
      due_more told taken = (λ send. so_far.none_came does.event (does.was_due send), so_far.due)

      notices_more : (told taken : Bool) → AllByRecursion (λ a. IsResend a.event → ResendsDue config old now a.event) (this told taken ∷ so_far.served)
      notices_more told taken = (λ resend. so_far.no_notice_came does.event (does.notice_was_due resend), so_far.notices_due)

      did_more : (told taken : Bool) → DoesAll A config number old new now (this told taken ∷ so_far.served)
      did_more told taken = (between, so_far.did, does.does)

      -- none of those that were done is due any more
      spent_more : (told taken : Bool) → (IsRefused act.line → ⊥) → All (λ a. SendsDue new number now a.event → ⊥) (this told taken ∷ so_far.served)
      spent_more told taken done = All-cons (λ a. SendsDue new number now a.event → ⊥) (this told taken) so_far.served (does.done done)
          (λ i d within due. so_far.spent i d within (does.others _ due))

      -- it was told
      abbrev TellsAct : Type 0
      TellsAct = Tells s after (printed.Event act.line) act.message

      told_asked : (tells : TellsAct) → Asks before after (acts_calls (this true tells.taken ∷ so_far.served))
      told_asked tells =
          asks_then before s after (acts_calls so_far.served) _ so_far.asked
          (subst (λ (line : Printed). Asks s after (send_calls act.message tells.taken ++ Prints line ∷ [])) (sym (event_line number does.event act.line does.duty)) tells.asked)

      -- it was done
      pub served_more : (IsRefused act.line → ⊥) → TellsAct → HasServed A config number old new now (count + 1) before after
      served_more taken tells =
          record {
            served = this true tells.taken ∷ so_far.served;
            counted = omega (arith, so_far.counted);
            did = did_more true tells.taken;
            duties = (does.duty, so_far.duties);
            due = due_more true tells.taken;
            none_came = λ other due. so_far.none_came other (does.others other due);
            notices_due = notices_more true tells.taken;
            no_notice_came = λ other due. so_far.no_notice_came other (does.other_notices other due);
            once = once_more true tells.taken;
            spent = spent_more true tells.taken taken;
            done = (record { taken = taken; told = refl }, so_far.done);
            asked = told_asked tells;
          }

      abbrev ServesAll : (receives receives_left pause left : Pause) (resolving resolving_left : ResolvingValue) → Type 0
      ServesAll receives receives_left pause left resolving resolving_left =
          ServesDue A config number (record { node = old; receives = receives; sends = pause; resolving = resolving; outside = before }) (record { node = new; receives = receives_left; sends = left; resolving = resolving_left; outside = after }) now true

      -- it was refused, and that was told, or wasn't
      refused_as : (receives receives_left pause left : Pause) (resolving resolving_left : ResolvingValue) (told taken : Bool) → IsRefused act.line → told ≡ is_told pause now → left ≡ failed pause now
          → Asks before after (acts_calls (this told taken ∷ so_far.served)) → ServesAll receives receives_left pause left resolving resolving_left
      refused_as receives receives_left pause left resolving resolving_left told taken refused told_is left_is asked =
          record {
            served = this told taken ∷ so_far.served;
            did = did_more told taken;
            serves = record {
              duties = (does.duty, so_far.duties);
              due = due_more told taken;
              notices_due = notices_more told taken;
              once = once_more told taken;
              done = (inr (record { refused = refused; told = told_is; left_is = left_is }), so_far.done);
              all = inl refused;
            };
            asked = asked;
          }

      pub ends_told : (receives receives_left pause left : Pause) (resolving resolving_left : ResolvingValue) (told : Bool) → IsRefused act.line → told ≡ is_told pause now → told ≡ true → left ≡ failed pause now → TellsAct
          → ServesAll receives receives_left pause left resolving resolving_left
      ends_told receives receives_left pause left resolving resolving_left told refused is told_is left_is tells =
          refused_as receives receives_left pause left resolving resolving_left true tells.taken refused (sym told_is ∙ is) left_is (told_asked tells)

      pub ends_untold : (receives receives_left pause left : Pause) (resolving resolving_left : ResolvingValue) (told : Bool) → IsRefused act.line → told ≡ is_told pause now → told ≡ false → left ≡ failed pause now → after ≡ s
          → ServesAll receives receives_left pause left resolving resolving_left
      ends_untold receives receives_left pause left resolving resolving_left told refused is told_is left_is same =
          refused_as receives receives_left pause left resolving resolving_left false false refused (sym told_is ∙ is) left_is
          (subst (λ (t : OutsideState). Asks before t (acts_calls so_far.served)) (sym same) so_far.asked)

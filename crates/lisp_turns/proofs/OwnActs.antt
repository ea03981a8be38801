-- What a node does in a turn is its own, and what arrives in it is what was received.
use Rattle.std.proofs.Common.{◌≡◌, ◌⊎◌, inl, inr, ℕ, Bool, true, false, List, [], ◌∷◌, ◌++◌, map, Option, Some, None, Ok, Err, refl, sym, ap, subst, ◌∙◌}
use Rattle.std.specs.List.{AllByRecursion, Contains}
use Rattle.lisp_records.specs.declared.address.Addr.{Addr}
use Rattle.lisp_model.specs.declared.event.Event.TheVariants as events
use Rattle.lisp_model.specs.Trace.{EventValue}
use Rattle.lisp_policy.specs.Configuration.{ConfigValue}
use Rattle.lisp_nonces.specs.declared.fate.Fate.TheVariants.{Done}
use Rattle.lisp_turns.specs.Acts.{TurnAct, DoesAll}
use Rattle.lisp_turns.specs.Due.{IsDuty}
use Rattle.lisp_turns.specs.Node.{NodeState}
use Rattle.lisp_turns.specs.Obeying.{Outcome, Obeys, obeyed}
use Rattle.lisp_turns.specs.Order.{event_of}
use Rattle.lisp_turns.specs.Outside.{Call, Reception, Datagram, Receives, Polls, Listens}
use Rattle.lisp_turns.specs.Part.{IsOwn, WasOrdered, arrival, received_of}
use Rattle.lisp_turns.specs.Turn.{Hears, IsDone, IsPut, AreDone, ServesIf}
use Rattle.lisp_turns.specs.declared.order.Order.{Order}
use Rattle.lisp_turns.specs.declared.order.Order.TheVariants.{Notice}
use Rattle.lisp_turns.specs.declared.pause.Pause.{Pause}
use Rattle.lisp_turns.proofs.Acting.{IsTold, AreOwn, arrived, own_duty, nothing_arrives}

-- what the node makes of a datagram is its own, and is told
pub heard_own : (number : ℕ) (receptions : List Reception) (acts : List TurnAct) → Hears number receptions acts → AreOwn number acts
heard_own number [] acts is = subst (λ (l : List TurnAct). AreOwn number l) (sym is) tt
heard_own number (Datagram from bytes ∷ earlier) acts (a, rest, is, event, told, more) =
    subst (λ (l : List TurnAct). AreOwn number l) (sym is) ((subst (λ (e : EventValue). IsOwn number e) (sym event) refl, inl told), heard_own number earlier rest more)
heard_own number (_ ∷ earlier) acts hears = heard_own number earlier acts hears

-- what a user tells a node was told, among what was asked
module _ (asked : List Call) where
  abbrev pub AreOrdered : List TurnAct → Type 0
  AreOrdered acts = AllByRecursion (λ a. WasOrdered asked a.event) acts

  -- a datagram isn't of that kind
  pub heard_ordered : (number : ℕ) (receptions : List Reception) (acts : List TurnAct) → Hears number receptions acts → AreOrdered acts
  heard_ordered number [] acts is = subst AreOrdered (sym is) tt
  heard_ordered number (Datagram from bytes ∷ earlier) acts (a, rest, is, event, told, more) =
      subst AreOrdered (sym is) (subst (λ (e : EventValue). WasOrdered asked e) (sym event) tt, heard_ordered number earlier rest more)
  heard_ordered number (_ ∷ earlier) acts hears = heard_ordered number earlier acts hears

  order_heard : (number : ℕ) (order : Order) → Contains asked (Listens (Some order)) → WasOrdered asked (event_of number order)
  order_heard number (Notice router) has = has
  order_heard number _ has = has

  pub taken_ordered : (number : ℕ) (order : Option Order) (outcome : Outcome) (taken : Bool) (heard : List TurnAct) → Contains asked (Listens order) → AreOrdered heard → AreOrdered (obeyed number order outcome taken ++ heard)
  taken_ordered number (Some order) (Some (Ok act)) taken heard has before = (order_heard number order has, before)
  taken_ordered number _ _ taken heard has before = before

  -- nor is what is due
  duty_ordered : (number : ℕ) (event : EventValue) → IsDuty number event → WasOrdered asked event
  duty_ordered number (events.Send router server part Done) due = tt
  duty_ordered number (events.Resend server router) due = tt
  duty_ordered number _ due = absurd due

  due_ordered : (number : ℕ) (acts : List TurnAct) → AllByRecursion (λ a. IsDuty number a.event) acts → AreOrdered acts
  due_ordered number [] due = tt
  due_ordered number (a ∷ earlier) due = (duty_ordered number a.event due.0, due_ordered number earlier due.1)

-- the datagrams that came
abbrev pub came : List Reception → List (Addr × List ℕ)
came [] = []
came (Datagram from bytes ∷ earlier) = (from, bytes) ∷ came earlier
came (_ ∷ earlier) = came earlier

-- and is all that arrived
pub heard_arrived : (number : ℕ) (receptions : List Reception) (acts : List TurnAct) → Hears number receptions acts → arrived acts ≡ came receptions
heard_arrived number [] acts is = ap arrived is
heard_arrived number (Datagram from bytes ∷ earlier) acts (a, rest, is, event, told, more) = ap arrived is ∙ (λ i. arrival (event i) ++ heard_arrived number earlier rest more i)
heard_arrived number (_ ∷ earlier) acts hears = heard_arrived number earlier acts hears

-- they are those that were received first, and polled
pub polls_came : (others : List Reception) (first : Reception) → received_of (map Polls others ++ Receives first ∷ []) ≡ came (others ++ first ∷ [])
polls_came [] (Datagram from bytes) = refl
polls_came [] _ = refl
polls_came (Datagram from bytes ∷ earlier) first = ap (λ (l : List (Addr × List ℕ)). (from, bytes) ∷ l) (polls_came earlier first)
polls_came (_ ∷ earlier) first = polls_came earlier first

-- what a user tells the node is its own, and nothing arrives by it
told_own : (number : ℕ) (order : Order) → IsOwn number (event_of number order)
told_own number (Notice router) = refl
told_own number _ = refl

told_arrives : (number : ℕ) (order : Order) → arrival (event_of number order) ≡ []
told_arrives number (Notice router) = refl
told_arrives number _ = refl

pub taken_own : (number : ℕ) (order : Option Order) (outcome : Outcome) (taken : Bool) (heard : List TurnAct) → AreOwn number heard → AreOwn number (obeyed number order outcome taken ++ heard)
taken_own number (Some order) (Some (Ok act)) taken heard own = ((told_own number order, inl refl), own)
taken_own number _ _ taken heard own = own

pub taken_arrived : (number : ℕ) (order : Option Order) (outcome : Outcome) (taken : Bool) (heard : List TurnAct) → arrived (obeyed number order outcome taken ++ heard) ≡ arrived heard
taken_arrived number (Some order) (Some (Ok act)) taken heard = ap (λ (l : List (Addr × List ℕ)). l ++ arrived heard) (told_arrives number order)
taken_arrived number _ _ taken heard = refl

-- the acts of what a node took in
module _ (A : Type 0) (config : ConfigValue) (number now : ℕ) (old between new : NodeState) (heard : List TurnAct) (did : DoesAll A config number old between now heard) where
  pub taken_did : (order : Option Order) (outcome : Outcome) (taken : Bool) → Obeys A config number between new now order outcome → DoesAll A config number old new now (obeyed number order outcome taken ++ heard)
  taken_did (Some order) (Some (Ok act)) taken obeys = (between, did, obeys)
  taken_did (Some order) (Some (Err fault)) taken obeys = subst (λ (n : NodeState). DoesAll A config number old n now heard) (sym obeys.0) did
  taken_did (Some order) None taken obeys = absurd obeys
  taken_did None (Some outcome) taken obeys = absurd obeys
  taken_did None None taken obeys = subst (λ (n : NodeState). DoesAll A config number old n now heard) (sym obeys) did

-- what was due is the node's own, and is told unless it was refused
module _ (number : ℕ) where
  abbrev AllDue : List TurnAct → Type 0
  AllDue acts = AllByRecursion (λ a. IsDuty number a.event) acts

  done_own : (acts : List TurnAct) → AllDue acts → AllByRecursion IsDone acts → AreOwn number acts
  done_own [] due done = tt
  done_own (a ∷ earlier) due done = ((own_duty number a.event due.0, inl done.0.told), done_own earlier due.1 done.1)

  first_told : (pause left : Pause) (now : ℕ) (a : TurnAct) → IsDuty number a.event → (IsDone a × (left ≡ pause)) ⊎ IsPut pause left now a → IsTold number a
  first_told pause left now a due (inl (done, same)) = inl done.told
  first_told pause left now a due (inr put) = inr (due, put.refused)

  served_own : (pause left : Pause) (now : ℕ) (acts : List TurnAct) → AllDue acts → AreDone pause left now acts → AreOwn number acts
  served_own pause left now [] due done = tt
  served_own pause left now (a ∷ earlier) due (first, rest) = ((own_duty number a.event due.0, first_told pause left now a due.0 first), done_own earlier due.1 rest)

  -- nothing of it arrives
  due_arrived : (acts : List TurnAct) → AllDue acts → arrived acts ≡ []
  due_arrived [] due = refl
  due_arrived (a ∷ earlier) due = (λ i. nothing_arrives number a.event due.0 i ++ due_arrived earlier due.1 i)

  -- so it is where nothing is tried, too
  pub record AreServed (acts : List TurnAct) : Type 0 where
    pub own : AreOwn number acts
    pub none : arrived acts ≡ []
    pub ordered : (asked : List Call) → AreOrdered asked acts

  pub are_served : (config : ConfigValue) (b : Bool) (pause left : Pause) (now : ℕ) (before after : NodeState) (acts : List TurnAct) → ServesIf config b number before after now pause left acts → AreServed acts
  are_served config true pause left now before after acts serves = record { own = served_own pause left now acts serves.duties serves.done; none = due_arrived acts serves.duties; ordered = λ asked. due_ordered asked number acts serves.duties }
  are_served config false pause left now before after acts (is, same) = record { own = subst (λ (l : List TurnAct). AreOwn number l) (sym is) tt; none = ap arrived is; ordered = λ asked. subst (AreOrdered asked) (sym is) tt }

-- Stretches of a turn, and turns from the start on.
use Rattle.std.specs.Prelude.{◌≡◌, ◌≢◌, ℕ, Bool, true, false, List, [], ◌∷◌, ◌++◌, length, map, Option, None, Result, Ok, Err}
use Rattle.std.specs.List.{All, AllByRecursion, AllPairs}
use Rattle.lisp_records.specs.declared.address.Addr.{Addr}
use Rattle.lisp_records.specs.declared.router.RouterId.{RouterId}
use Rattle.lisp_records.specs.Address.{PrefixValue}
use Rattle.lisp_budget.specs.Budget.{BudgetState, takes, after_take}
use Rattle.lisp_mapping.specs.Handling.{HandledValue}
use Rattle.lisp_policy.specs.Configuration.{ConfigValue}
use Rattle.lisp_mapping.specs.Sends.{DatagramValue}
use Rattle.lisp_mapping.specs.declared.unasked.Unasked.{Unasked}
use Rattle.lisp_model.specs.Trace.{EventValue}
use Rattle.lisp_turns.specs.Acts.{TurnAct, DoesAll, acts_calls, send_calls}
use Rattle.lisp_turns.specs.Due.{IsDuty, IsSend, IsResend, SendsDue, ResendsDue}
use Rattle.lisp_turns.specs.Node.{NodeState, TellsDead}
use Rattle.lisp_turns.specs.Outside.{Reception, Call, Polls, Listens, Prints, Requests, OutsideState, IsApart, logged}
use Rattle.lisp_turns.specs.Pause.{no_pause}
use Rattle.lisp_turns.specs.Requests.{Passage, is_sent, counted, RequestDeed, ResolvingValue, PassesEach, PassesOf, DoesRequest, DoesRequests, AnswersRequests, passage_calls, passages_calls, made_calls, deed_calls, deeds_calls, answered_calls}
use Rattle.lisp_turns.specs.Turn.{TurnState, Intake, acts_of, IsTakenIn, commit_calls, telling_calls, expired_calls, receives_after, IsDone, ServesIf, IsTurn, IsLostTurn, TakesTurns, LosesTurn}
use Rattle.lisp_turns.specs.declared.outside.Printed.{Printed}
use Rattle.lisp_turns.specs.declared.pause.Pause.{Pause}
use Rattle.lisp_turns.specs.declared.turn.Uncommitted.{Uncommitted}
use Rattle.lisp_turns.specs.declared.turn.Station.{Station}

-- a node at its station, between turns
abbrev pub at_station : NodeState → Station → OutsideState → TurnState
at_station node station outside = record { node = node; receives = station.receives; sends = station.sends; resolving = station.resolving; outside = outside }

-- the calls were made, the newest first, of which the clock told nothing
abbrev pub Asks : OutsideState → OutsideState → List Call → Type 0
Asks old new calls = new ≡ record old { log = logged calls old.log; is_cut = new.is_cut }

-- a line was printed, and the message behind it was sent, if there is one
pub record Tells (old new : OutsideState) (line : Printed) (message : Option (Addr × List ℕ)) : Type 0 where
  pub taken : Bool
  pub asked : Asks old new (send_calls message taken ++ Prints line ∷ [])

-- time passes, and each row that dies is told
pub record Expires (old new : NodeState) (now : ℕ) (before after : OutsideState) : Type 0 where
  pub dead : List (RouterId × PrefixValue)
  pub told : TellsDead old new now dead
  pub asked : Asks before after (expired_calls dead)

-- what was taken in is told, and so is a failure of the socket; nothing is, where the commit wasn't done
abbrev pub told_calls : ℕ → Bool → Reception → Pause → ℕ → Intake → NodeState → List Call
told_calls number true first receives now intake node = telling_calls number first receives now intake node
told_calls number false first receives now intake node = []

-- behind what was received first, a node took in what waited at a moment; the commit of it was done or not; and what is told then was told
pub record TakesIn (A : Type 0) (config : ConfigValue) (number places : ℕ) (old new : TurnState) (now : ℕ) (first : Reception)
    (done : Bool) : Type 0 where
  pub intake : Intake
  pub takes : IsTakenIn A config number places old.node new.node now first intake
  pub some : done ≡ false → acts_of number intake ≢ []
  pub apart : AllByRecursion (IsApart old.outside.is_asked) intake.others
  pub left_is : done ≡ true → new.receives ≡ receives_after first old.receives now
  pub asked : Asks old.outside new.outside (told_calls number done first old.receives now intake new.node ++ commit_calls (acts_of number intake) done ++ Listens intake.order ∷ map Polls intake.others)

-- a node did what was due at a moment, until so many acts were done and told, of which none is due any more, and no other became due
pub record HasServed (A : Type 0) (config : ConfigValue) (number : ℕ) (old new : NodeState) (now count : ℕ)
    (before after : OutsideState) : Type 0 where
  pub served : List TurnAct
  pub counted : length served ≡ count
  pub did : DoesAll A config number old new now served
  pub duties : AllByRecursion (λ a. IsDuty number a.event) served
  pub due : AllByRecursion (λ a. IsSend a.event → SendsDue old number now a.event) served
  pub none_came : (other : EventValue) → SendsDue new number now other → SendsDue old number now other
  pub notices_due : AllByRecursion (λ a. IsResend a.event → ResendsDue config old now a.event) served
  pub no_notice_came : (other : EventValue) → ResendsDue config new now other → ResendsDue config old now other
  pub once : AllPairs (λ a b. IsSend a.event → a.event ≢ b.event) served
  pub spent : All (λ a. SendsDue new number now a.event → ⊥) served
  pub done : AllByRecursion IsDone served
  pub asked : Asks before after (acts_calls served)

-- a node did all that was due at a moment, where it tries that, and it was told
pub record ServesDue (A : Type 0) (config : ConfigValue) (number : ℕ) (old new : TurnState) (now : ℕ) (tries : Bool) : Type 0 where
  pub served : List TurnAct
  pub did : DoesAll A config number old.node new.node now served
  pub serves : ServesIf config tries number old.node new.node now old.sends new.sends served
  pub asked : Asks old.outside new.outside (acts_calls served)

-- a datagram went out, or was held back
pub record PassesOne (now : ℕ) (from : Addr) (datagram : DatagramValue) (old new : BudgetState) (before after : OutsideState) : Type 0 where
  pub passage : Passage
  pub is : is_sent passage ≡ takes old (counted datagram now)
  pub left : new ≡ after_take old (counted datagram now)
  pub asked : Asks before after (passage_calls from datagram passage)

-- so each of them did
pub record PassesAll (now : ℕ) (from : Addr) (datagrams : List DatagramValue) (old new : BudgetState) (before after : OutsideState) : Type 0 where
  pub passages : List Passage
  pub passes : PassesEach now datagrams passages old new
  pub asked : Asks before after (passages_calls from datagrams passages)

-- what a node made of a Map-Request was told, and its datagrams went out
pub record TellsMade (now : ℕ) (from : Addr) (made : Option (Result HandledValue Unasked)) (old new : BudgetState) (before after : OutsideState)
    : Type 0 where
  pub passages : List Passage
  pub passes : PassesOf now made passages old new
  pub asked : Asks before after (made_calls from made passages)

-- a node answered the next Map-Request that waits; or none does
pub record AnswersOne (config : ConfigValue) (number : ℕ) (node : NodeState) (quiet now : ℕ) (old new : BudgetState) (before after : OutsideState)
    : Type 0 where
  pub deed : RequestDeed
  pub does : DoesRequest config number node quiet now deed old new
  pub asked : Asks before after (deed_calls deed)

abbrev pub AnswersNext : ConfigValue → ℕ → NodeState → (quiet now : ℕ) → (old new : BudgetState) → (before after : OutsideState) → (some : Bool) → Type 0
AnswersNext config number node quiet now old new before after true = AnswersOne config number node quiet now old new before after
AnswersNext config number node quiet now old new before after false = (new ≡ old) × Asks before after (Requests None ∷ [])

-- a node answered so many Map-Requests
pub record HasAnswered (config : ConfigValue) (number count : ℕ) (node : NodeState) (quiet now : ℕ) (old new : BudgetState)
    (before after : OutsideState) : Type 0 where
  pub deeds : List RequestDeed
  pub counted : length deeds ≡ count
  pub does : DoesRequests config number node quiet now deeds old new
  pub asked : Asks before after (deeds_calls deeds)

-- a node answered the Map-Requests that wait
pub record AnswersWaiting (config : ConfigValue) (number places : ℕ) (node : NodeState) (now : ℕ) (old new : ResolvingValue)
    (before after : OutsideState) : Type 0 where
  pub deeds : List RequestDeed
  pub ended : Bool
  pub answers : AnswersRequests config number places node now old new deeds ended
  pub asked : Asks before after (answered_calls ended deeds)

-- a turn was taken, or was lost
abbrev pub EndsTurn : Type 0 → ConfigValue → (number places : ℕ) → (old new : TurnState) → (done : Bool) → Type 0
EndsTurn A config number places old new true = IsTurn A config number places old new
EndsTurn A config number places old new false = IsLostTurn A config number places old new.node new.outside

-- a node that begins, with no failure before
abbrev pub beginning : NodeState → ResolvingValue → OutsideState → TurnState
beginning node resolving outside = record { node = node; receives = no_pause; sends = no_pause; resolving = resolving; outside = outside }

-- so many turns from a start on, or fewer where a line couldn't be printed
pub record StartsTurns (A : Type 0) (config : ConfigValue) (number places turns : ℕ) (begun node : NodeState) (resolving : ResolvingValue)
    (before after : OutsideState) : Type 0 where
  pub receives : Pause
  pub sends : Pause
  pub left : ResolvingValue
  pub took : TakesTurns A config number places turns (beginning begun resolving before)
      (record { node = node; receives = receives; sends = sends; resolving = left; outside = after })

-- turns from a start on: all of them, or until one is lost
abbrev pub EndsTurns : Type 0 → ConfigValue → (number places turns : ℕ) → (begun node : NodeState) → (resolving : ResolvingValue)
    → (before after : OutsideState) → Result (Unit {0}) Uncommitted → Type 0
EndsTurns A config number places turns begun node resolving before after (Ok _) =
    StartsTurns A config number places turns begun node resolving before after
EndsTurns A config number places turns begun node resolving before after (Err lost) =
    LosesTurn A config number places turns lost.turns_left (beginning begun resolving before) node after

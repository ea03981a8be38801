-- Which kinds of calls the parts of a turn ask outside: none of them but a hearing reads the clock.
use Rattle.std.proofs.Common.{Bool, true, false, List, [], ◌∷◌, ◌++◌, map, Option, Some, None, Result, Ok, Err}
use Rattle.std.specs.Prelude.{ℕ, if◌then◌else◌}
use Rattle.std.specs.List.{AllByRecursion}
use Rattle.lisp_records.specs.declared.address.Addr.{Addr}
use Rattle.lisp_records.specs.declared.router.RouterId.{RouterId}
use Rattle.lisp_records.specs.Address.{PrefixValue}
use Rattle.lisp_mapping.specs.Handling.{HandledValue}
use Rattle.lisp_mapping.specs.declared.outcome.Outcome.{Outcome}
use Rattle.lisp_mapping.specs.Sends.{DatagramValue}
use Rattle.lisp_mapping.specs.declared.unasked.Unasked.{Unasked}
use Rattle.lisp_turns.specs.Acts.{TurnAct, send_calls, printed_of, act_calls, acts_calls}
use Rattle.lisp_turns.specs.Outside.{Call, Reception, Failed, Receives, Polls, Reads, Prints, Sends, Requests, Replies}
use Rattle.lisp_turns.specs.Pause.{is_told}
use Rattle.lisp_turns.specs.Requests.{Passage, Held, Sent, RequestDeed, passage_calls, passages_calls, outcome_calls, made_calls, deed_calls, deeds_calls, end_calls, answered_calls}
use Rattle.lisp_turns.specs.Turn.{failure_calls, rest_calls, expired_calls, commit_calls}
use Rattle.lisp_turns.specs.declared.outside.Printed.{Printed}
use Rattle.lisp_turns.specs.declared.outside.Printed.TheVariants as printed
use Rattle.lisp_turns.specs.declared.outside.SocketCall.TheVariants as socket
use Rattle.lisp_turns.specs.declared.pause.Pause.{Pause}
use Rattle.lisp_turns.proofs.Reaching.{all_append}

abbrev May : Bool → Type 0
May true = Unit {0}
May false = ⊥

-- no reading of the clock; and no line of an event or message, no reception, and no datagram for a Map-Request, unless such may be
abbrev pub IsOfKinds : (events receptions replies : Bool) → Call → Type 0
IsOfKinds events receptions replies (Reads now) = ⊥
IsOfKinds events receptions replies (Receives r) = May receptions
IsOfKinds events receptions replies (Polls r) = May receptions
IsOfKinds events receptions replies (Prints (printed.Event line)) = May events
IsOfKinds events receptions replies (Prints (printed.Heard line from)) = May events
IsOfKinds events receptions replies (Sends to bytes taken) = May events
IsOfKinds events receptions replies (Replies d taken) = May replies
IsOfKinds events receptions replies _ = Unit {0}

abbrev pub AreOfKinds : (events receptions replies : Bool) → List Call → Type 0
AreOfKinds events receptions replies calls = AllByRecursion (IsOfKinds events receptions replies) calls

-- what is asked for an act
told_kinds : (h r : Bool) (message : Option (Addr × List ℕ)) (taken : Bool) (line : Printed) → AreOfKinds true h r (Prints line ∷ []) → AreOfKinds true h r (send_calls message taken ++ Prints line ∷ [])
told_kinds h r None taken line is = is
told_kinds h r (Some m) true line is = (tt, is)
told_kinds h r (Some m) false line is = (tt, (tt, is))

pub acts_kinds : (h r : Bool) (acts : List TurnAct) → AreOfKinds true h r (acts_calls acts)
acts_kinds h r [] = tt
acts_kinds h r (a ∷ earlier) = all_append (IsOfKinds true h r) (act_calls a) (acts_calls earlier) (by a.told) (acts_kinds h r earlier)
  where
    said : (line : Printed) → AreOfKinds true h r (Prints line ∷ [])
    said (printed.Event line) = (tt, tt)
    said (printed.Heard line from) = (tt, tt)
    said _ = (tt, tt)

    by : (b : Bool) → AreOfKinds true h r (if b then send_calls a.act.message a.taken ++ Prints (printed_of a.event a.act.line) ∷ [] else [])
    by true = told_kinds h r a.act.message a.taken (printed_of a.event a.act.line) (said (printed_of a.event a.act.line))
    by false = tt

-- what is polled
pub polls_kinds : (e r : Bool) (others : List Reception) → AreOfKinds e true r (map Polls others)
polls_kinds e r [] = tt
polls_kinds e r (first ∷ others) = (tt, polls_kinds e r others)

module _ (e h r : Bool) where
  -- a socket that failed, rows that died, and a commit
  pub rest_kinds : (reception : Reception) → AreOfKinds e h r (rest_calls reception)
  rest_kinds Failed = (tt, tt)
  rest_kinds _ = tt

  pub failure_kinds : (reception : Reception) (receives : Pause) (now : ℕ) → AreOfKinds e h r (failure_calls reception receives now)
  failure_kinds Failed receives now = by (is_told receives now)
    where
      by : (b : Bool) → AreOfKinds e h r (if b then Prints (printed.Failed socket.Receive) ∷ [] else [])
      by true = (tt, tt)
      by false = tt
  failure_kinds _ receives now = tt

  pub expired_kinds : (dead : List (RouterId × PrefixValue)) → AreOfKinds e h r (expired_calls dead)
  expired_kinds [] = tt
  expired_kinds (key ∷ dead) = (tt, expired_kinds dead)

  pub commit_kinds : (acts : List TurnAct) (done : Bool) → AreOfKinds e h r (commit_calls acts done)
  commit_kinds [] done = tt
  commit_kinds (a ∷ earlier) done = (tt, tt)

  -- what a user is told of a Map-Request
  pub outcomes_kinds : (to : Addr) (eids : List PrefixValue) (outcomes : List Outcome) → AreOfKinds e h r (outcome_calls to eids outcomes)
  outcomes_kinds to [] outcomes = tt
  outcomes_kinds to (eid ∷ eids) [] = tt
  outcomes_kinds to (eid ∷ eids) (outcome ∷ outcomes) =
      all_append (IsOfKinds e h r) (outcome_calls to eids outcomes) (Prints (printed.Asked eid to outcome) ∷ []) (outcomes_kinds to eids outcomes) (tt, tt)

  pub end_kinds : (ended : Bool) → AreOfKinds e h r (end_calls ended)
  end_kinds true = (tt, tt)
  end_kinds false = tt

-- what is asked for a Map-Request
module _ (e h : Bool) where
  pub passage_kinds : (from : Addr) (d : DatagramValue) (passage : Passage) → AreOfKinds e h true (passage_calls from d passage)
  passage_kinds from d Held = (tt, tt)
  passage_kinds from d (Sent true) = (tt, tt)
  passage_kinds from d (Sent false) = (tt, (tt, tt))

  passages_kinds : (from : Addr) (ds : List DatagramValue) (passages : List Passage) → AreOfKinds e h true (passages_calls from ds passages)
  passages_kinds from [] passages = tt
  passages_kinds from (d ∷ ds) [] = tt
  passages_kinds from (d ∷ ds) (passage ∷ passages) =
      all_append (IsOfKinds e h true) (passages_calls from ds passages) (passage_calls from d passage) (passages_kinds from ds passages) (passage_kinds from d passage)

  made_kinds : (from : Addr) (made : Option (Result HandledValue Unasked)) (passages : List Passage) → AreOfKinds e h true (made_calls from made passages)
  made_kinds from None passages = tt
  made_kinds from (Some (Err why)) passages = (tt, tt)
  made_kinds from (Some (Ok handled)) passages = all_append (IsOfKinds e h true) (passages_calls from handled.datagrams passages) (outcome_calls handled.asked.to handled.asked.eids handled.outcomes)
      (passages_kinds from handled.datagrams passages) (outcomes_kinds e h true handled.asked.to handled.asked.eids handled.outcomes)

  pub deeds_kinds : (deeds : List RequestDeed) → AreOfKinds e h true (deeds_calls deeds)
  deeds_kinds [] = tt
  deeds_kinds (deed ∷ earlier) = all_append (IsOfKinds e h true) (deed_calls deed) (deeds_calls earlier)
      (all_append (IsOfKinds e h true) (made_calls deed.came.from deed.made deed.passages) (Requests (Some deed.came) ∷ []) (made_kinds deed.came.from deed.made deed.passages) (tt, tt)) (deeds_kinds earlier)

  pub answered_kinds : (ended : Bool) (deeds : List RequestDeed) → AreOfKinds e h true (answered_calls ended deeds)
  answered_kinds ended deeds = all_append (IsOfKinds e h true) (end_calls ended) (deeds_calls deeds) (end_kinds e h true ended) (deeds_kinds deeds)

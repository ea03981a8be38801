-- A turn of a node: a group of datagrams, if one comes, and what a user tells it; then what is due.
use Rattle.std.specs.Prelude.{◌≡◌, ◌≢◌, ◌⊎◌, ℕ, zero, suc, ◌-◌, ◌^◌, ◌<◌, ◌≤◌, Bool, true, false, List, [], ◌∷◌, ◌++◌, length, map, drop, ◌+◌, Option, if◌then◌else◌}
use Rattle.std.specs.List.{AllByRecursion, AllPairs}
use Rattle.lisp_memory.specs.Refusal.{MachineMayRefuse}
use Rattle.lisp_records.specs.declared.router.RouterId.{RouterId}
use Rattle.lisp_records.specs.Address.{PrefixValue}
use Rattle.lisp_records.specs.Moment.{second, max_moment}
use Rattle.lisp_policy.specs.Configuration.{ConfigValue}
use Rattle.lisp_model.specs.declared.event.Event.TheVariants as events
use Rattle.lisp_turns.specs.Node.{NodeState, core_of, Passes, TellsDead}
use Rattle.lisp_turns.specs.Acts.{TurnAct, DoesAll, acts_calls}
use Rattle.lisp_turns.specs.Due.{IsDuty, IsSend, IsResend, SendsDue, ResendsDue, IsRefused, NothingDue}
use Rattle.lisp_turns.specs.Obeying.{Outcome, Obeys, obeyed, answer_of}
use Rattle.lisp_turns.specs.Outside.{Reception, Datagram, Failed, Call, Receives, Polls, Reads, Waits, Commits, Prints, Listens, Answers, OutsideState, IsApart, logged}
use Rattle.lisp_turns.specs.Pause.{may_try, is_told, failed}
use Rattle.lisp_turns.specs.Requests.{RequestDeed, ResolvingValue, AnswersRequests, answered_calls}
use Rattle.lisp_turns.specs.declared.order.Order.{Order}
use Rattle.lisp_turns.specs.declared.outside.Printed.TheVariants as printed
use Rattle.lisp_turns.specs.declared.outside.SocketCall.TheVariants as calls
use Rattle.lisp_turns.specs.declared.pause.Pause.{Pause}

-- a node between turns: the node; when its socket's failures are told, and when what is due is tried again; how it answers Map-Requests;
-- and what is outside
pub record TurnState : Type 0 where
  pub node : NodeState
  pub receives : Pause
  pub sends : Pause
  pub resolving : ResolvingValue
  pub outside : OutsideState

-- of each datagram the node makes one act, which is told: it is given the bytes as they came, from where they came; the newest first
abbrev pub Hears : ℕ → List Reception → List TurnAct → Type 0
Hears number [] acts = acts ≡ []
Hears number (Datagram from bytes ∷ earlier) acts = (a : TurnAct) × (rest : List TurnAct) × (acts ≡ a ∷ rest)
    × (a.event ≡ events.Junk number from bytes) × (a.told ≡ true) × Hears number earlier rest
Hears number (_ ∷ earlier) acts = Hears number earlier acts

abbrev pub IsDatagram : Reception → Type 0
IsDatagram (Datagram from bytes) = Unit {0}
IsDatagram _ = ⊥

-- the newest that was received is a datagram, if anything was
abbrev pub EndsInDatagram : List Reception → Type 0
EndsInDatagram [] = Unit {0}
EndsInDatagram (newest ∷ earlier) = IsDatagram newest

-- The group of a turn: behind the first datagram, those that waited already, until none did, or the group had so many places taken, or
-- memory for one more was refused; the newest first. Where none came first, no more is asked for.
pub record IsGroup (places : ℕ) (first : Reception) (others : List Reception) : Type 0 where
  pub few : length others ≤ places - 1
  pub some : IsDatagram first ⊎ (others ≡ [])
  pub datagrams : AllByRecursion IsDatagram (drop 1 others)
  pub full : IsDatagram first → EndsInDatagram others → (length others ≡ places - 1) ⊎ MachineMayRefuse

-- a socket that failed is a line, once a minute, and a second's rest at the end of the turn; nothing else
abbrev pub failure_calls : Reception → Pause → ℕ → List Call
failure_calls Failed receives now = if is_told receives now then Prints (printed.Failed calls.Receive) ∷ [] else []
failure_calls _ receives now = []

abbrev pub rest_calls : Reception → List Call
rest_calls Failed = Waits second ∷ []
rest_calls _ = []

abbrev pub receives_after : Reception → Pause → ℕ → Pause
receives_after Failed receives now = failed receives now
receives_after _ receives now = receives

-- what was due was done and told
pub record IsDone (a : TurnAct) : Type 0 where
  pub taken : IsRefused a.act.line → ⊥
  pub told : a.told ≡ true

-- it was refused, which is told once a minute
pub record IsPut (pause left : Pause) (now : ℕ) (a : TurnAct) : Type 0 where
  pub refused : IsRefused a.act.line
  pub told : a.told ≡ is_told pause now
  pub left_is : left ≡ failed pause now

-- all that was due was done, but for the last, if that was refused
abbrev pub AreDone : Pause → Pause → ℕ → List TurnAct → Type 0
AreDone pause left now [] = left ≡ pause
AreDone pause left now (a ∷ earlier) = ((IsDone a × (left ≡ pause)) ⊎ IsPut pause left now a) × AllByRecursion IsDone earlier

-- the last act was refused
abbrev pub EndsRefused : List TurnAct → Type 0
EndsRefused [] = ⊥
EndsRefused (a ∷ earlier) = IsRefused a.act.line

-- what was due at a moment, the newest act first: each Map-Register to a Map-Server and of a part once at most, and only Map-Registers and
-- notices that were due before; and all that was due, unless one was refused, or there were 2^64 - 1
pub record DoesDuties (config : ConfigValue) (number : ℕ) (before after : NodeState) (now : ℕ) (pause left : Pause) (acts : List TurnAct) : Type 0 where
  pub duties : AllByRecursion (λ a. IsDuty number a.event) acts
  pub due : AllByRecursion (λ a. IsSend a.event → SendsDue before number now a.event) acts
  pub notices_due : AllByRecursion (λ a. IsResend a.event → ResendsDue config before now a.event) acts
  pub once : AllPairs (λ a b. IsSend a.event → a.event ≢ b.event) acts
  pub done : AreDone pause left now acts
  pub all : EndsRefused acts ⊎ (NothingDue after now ⊎ (length acts ≡ 2 ^ 64 - 1))

-- where something was refused less than a second ago, nothing is tried
abbrev pub ServesIf : ConfigValue → Bool → ℕ → NodeState → NodeState → ℕ → Pause → Pause → List TurnAct → Type 0
ServesIf config true number before after now pause left acts = DoesDuties config number before after now pause left acts
ServesIf config false number before after now pause left acts = (acts ≡ []) × (left ≡ pause)

abbrev pub Serves : ConfigValue → ℕ → NodeState → NodeState → ℕ → Pause → Pause → List TurnAct → Type 0
Serves config number before after now pause left acts = ServesIf config (may_try pause now) number before after now pause left acts

-- the lines of the rows that died, the newest first
abbrev pub expired_calls : List (RouterId × PrefixValue) → List Call
expired_calls dead = map (λ key. Prints (printed.Expired key.0 key.1)) dead

-- What a node took in in a turn: the datagrams that waited behind the first one, and what it made of all; and what a user told it, with
-- what came of that.
pub record Intake : Type 0 where
  pub others : List Reception
  pub heard : List TurnAct
  pub order : Option Order
  pub outcome : Outcome
  pub taken : Bool

-- its acts, the newest first
abbrev pub acts_of : ℕ → Intake → List TurnAct
acts_of number intake = obeyed number intake.order intake.outcome intake.taken ++ intake.heard

-- what was saved in acts is committed, if there were any
abbrev pub commit_calls : List TurnAct → Bool → List Call
commit_calls [] done = []
commit_calls (a ∷ earlier) done = Commits done ∷ []

-- What is asked outside in a turn until what was taken in is committed, the newest first: others see nothing of it, but that rows died.
abbrev pub hearing_calls : ℕ → (first : Reception) → ℕ → (dead : List (RouterId × PrefixValue)) → Intake → Bool → List Call
hearing_calls number first now dead intake done =
    commit_calls (acts_of number intake) done ++ (Listens intake.order ∷ map Polls intake.others) ++ expired_calls dead ++ Reads now ∷ Receives first ∷ []

-- and behind the commit: a failure of the socket, the lines and the answers, and last what the user is told
abbrev pub telling_calls : ℕ → (first : Reception) → Pause → ℕ → Intake → NodeState → List Call
telling_calls number first receives now intake node =
    (Answers (core_of node) now (answer_of intake.outcome) ∷ acts_calls (acts_of number intake)) ++ failure_calls first receives now

-- and in a whole turn
abbrev pub turn_calls : ℕ → (first : Reception) → Pause → ℕ → (dead : List (RouterId × PrefixValue)) → Intake → NodeState → (served : List TurnAct) → (answered : List Call) → List Call
turn_calls number first receives now dead intake node served answered =
    rest_calls first ++ answered ++ acts_calls served ++ telling_calls number first receives now intake node ++ hearing_calls number first now dead intake true

-- What a node takes in: it takes the datagrams that wait behind the first one, and makes of each what it makes of it at that moment; and
-- then it does what a user tells it.
pub record IsTakenIn (A : Type 0) (config : ConfigValue) (number places : ℕ) (old new : NodeState) (now : ℕ) (first : Reception) (intake : Intake)
    : Type 0 where
  pub group : IsGroup places first intake.others
  pub hears : Hears number (intake.others ++ first ∷ []) intake.heard
  pub between : NodeState
  pub did_hear : DoesAll A config number old between now intake.heard
  pub obeys : Obeys A config number between new now intake.order intake.outcome

-- What a node hears in a turn. It takes a datagram, if one comes, reads the clock once, drops the dead rows and tells each, and takes in
-- what waits. Where Map-Requests wait apart, it hears none.
pub record IsHearing (A : Type 0) (config : ConfigValue) (number places : ℕ) (old : TurnState) (between : NodeState) (now : ℕ)
    (first : Reception) (dead : List (RouterId × PrefixValue)) (intake : Intake) : Type 0 where
  pub later : old.outside.moment ≤ now
  pub bound : now ≤ max_moment
  pub apart : AllByRecursion (IsApart old.outside.is_asked) (intake.others ++ first ∷ [])
  pub passed : NodeState
  pub expires : TellsDead old.node passed now dead
  pub takes : IsTakenIn A config number places passed between now first intake

-- One turn: what it takes in is committed, and then told, and then it does what is due, and answers the Map-Requests that wait.
pub record IsTurn (A : Type 0) (config : ConfigValue) (number places : ℕ) (old new : TurnState) : Type 0 where
  pub reception : Reception
  pub now : ℕ
  pub dead : List (RouterId × PrefixValue)
  pub intake : Intake
  pub between : NodeState
  pub hearing : IsHearing A config number places old between now reception dead intake
  pub left : NodeState
  pub withdrawn : Passes between left now
  pub receives : new.receives ≡ receives_after reception old.receives now
  pub served : List TurnAct
  pub did_serve : DoesAll A config number left new.node now served
  pub serves : Serves config number left new.node now old.sends new.sends served
  pub deeds : List RequestDeed
  pub ended : Bool
  pub answers : AnswersRequests config number places new.node now old.resolving new.resolving deeds ended
  pub calls : new.outside ≡ record old.outside { log = logged (turn_calls number reception old.receives now dead intake between served (answered_calls ended deeds)) old.outside.log; moment = now; is_cut = new.outside.is_cut }

-- A turn that is lost: what it took in couldn't be committed. No line of it and no answer goes out, and no turn follows it. The node is left
-- as it was then.
pub record IsLostTurn (A : Type 0) (config : ConfigValue) (number places : ℕ) (old : TurnState) (between : NodeState) (outside : OutsideState)
    : Type 0 where
  pub reception : Reception
  pub now : ℕ
  pub dead : List (RouterId × PrefixValue)
  pub intake : Intake
  pub hearing : IsHearing A config number places old between now reception dead intake
  pub some : acts_of number intake ≢ []
  pub calls : outside ≡ record old.outside { log = logged (hearing_calls number reception now dead intake false) old.outside.log; moment = now; is_cut = outside.is_cut }

-- so many turns
abbrev pub Turns : Type 0 → ConfigValue → ℕ → ℕ → ℕ → TurnState → TurnState → Type 0
Turns A config number places zero old new = new ≡ old
Turns A config number places (suc n) old new = (between : TurnState) × Turns A config number places n old between × IsTurn A config number places between new

-- each line of so many turns could be printed
abbrev pub IsUncut : ℕ → TurnState → Type 0
IsUncut zero s = Unit {0}
IsUncut (suc n) s = s.outside.is_cut ≡ false

-- so many turns, each of which but the first follows one whose lines could be printed
abbrev pub UncutTurns : Type 0 → ConfigValue → ℕ → ℕ → ℕ → TurnState → TurnState → Type 0
UncutTurns A config number places zero old new = new ≡ old
UncutTurns A config number places (suc n) old new = (between : TurnState) × UncutTurns A config number places n old between × IsUncut n between
    × IsTurn A config number places between new

-- so many turns, or fewer where a line couldn't be printed, and then none after it
pub record TakesTurns (A : Type 0) (config : ConfigValue) (number places turns : ℕ) (old new : TurnState) : Type 0 where
  pub count : ℕ
  pub few : count ≤ turns
  pub took : UncutTurns A config number places count old new
  pub cut : count < turns → new.outside.is_cut ≡ true

-- turns, and then one that is lost, behind which so many are left
pub record LosesTurn (A : Type 0) (config : ConfigValue) (number places turns left : ℕ) (old : TurnState) (node : NodeState)
    (outside : OutsideState) : Type 0 where
  pub count : ℕ
  pub counted : count + 1 + left ≡ turns
  pub before : TurnState
  pub took : UncutTurns A config number places count old before
  pub uncut : IsUncut count before
  pub lost : IsLostTurn A config number places before node outside

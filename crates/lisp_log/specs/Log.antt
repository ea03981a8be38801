-- What a node that runs without an end tells: its lines, but for those that repeat others; how many
-- those were; which Map-Servers are silent; from where Map-Registers are refused as replays for long; and which
-- routers moved.
use Rattle.std.specs.Prelude.{◌≡◌, ◌⊎◌, ℕ, ◌+◌, ◌*◌, ◌<◌, ◌≤◌, ◌==◌, Bool, true, false, List, [], ◌∷◌, Option, Some, None, if◌then◌else◌}
use Rattle.std.specs.List.{flat_map}
use Rattle.std.specs.Option.{option_map}
use Rattle.lisp_records.specs.declared.address.Addr.{Addr}
use Rattle.lisp_records.specs.declared.router.RouterId.{RouterId}
use Rattle.lisp_policy.specs.Configuration.{ConfigValue}
use Rattle.lisp_admission.specs.declared.refused.Refused.TheVariants as refused
use Rattle.lisp_model.specs.Faults.{refusal_number}
use Rattle.lisp_model.specs.declared.refusal.Refusal.{Refusal}
use Rattle.lisp_model.specs.declared.refusal.Refusal.TheVariants as refusals
use Rattle.lisp_model.specs.declared.line.Line.TheVariants as lines
use Rattle.lisp_mapping.specs.declared.outcome.Outcome.{Outcome}
use Rattle.lisp_mapping.specs.declared.outcome.Outcome.TheVariants as outcomes
use Rattle.lisp_mapping.specs.Unasked.{unasked_number}
use Rattle.lisp_turns.specs.declared.outside.Printed.{Printed}
use Rattle.lisp_turns.specs.declared.outside.Printed.TheVariants as printed
use Rattle.lisp_log.specs.declared.moves.Whereabouts.{Whereabouts}
use Rattle.lisp_log.specs.declared.repeats.Repeat.{Repeat}
use Rattle.lisp_log.specs.declared.repeats.Repeated.{Repeated}
use Rattle.lisp_log.specs.declared.repeats.Repeated.TheVariants as repeated
use Rattle.lisp_log.specs.declared.replays.Replay.{Replay}
use Rattle.lisp_log.specs.declared.silences.Silence.{Silence}
use Rattle.lisp_log.specs.Moves.{Hears, heard_in, moved_from, where_is}
use Rattle.lisp_log.specs.Repeats.{TellsEvent}
use Rattle.lisp_log.specs.Replays.{without, ongoing, Replayed, TellsReplay, NoneDue}
use Rattle.lisp_log.specs.Silences.{never_heard, Acknowledges, TellsSilence, NoneSilent}
use Rattle.lisp_log.specs.Waiting.{WaitingState, nothing_waits, put_line, put_sum, drops, drops_one}
use Rattle.lisp_log.specs.Text.{over_budget_number, told_text, repeat_text, silent_text, replay_text, moved_text, started_text}

pub record LogState : Type 0 where
  pub config : ConfigValue
  pub name : List ℕ
  pub repeats : List Repeat
  pub second : ℕ
  pub silences : List Silence
  pub replays : List Replay
  pub moves : List (RouterId × Whereabouts)
  pub waiting : WaitingState

-- at the moment at which it begins it says how many pairs the node's store keeps
abbrev pub begins : ConfigValue → List ℕ → List ℕ → ℕ → ℕ → LogState
begins config name servers pairs now = record {
  config = config;
  name = name;
  repeats = [];
  second = 0;
  silences = never_heard now servers;
  replays = [];
  moves = [];
  waiting = put_line nothing_waits (started_text name pairs);
}

-- a text waits; where memory may be refused, it may be dropped
abbrev pub Puts : Type 0 → WaitingState → WaitingState → List ℕ → Type 0
Puts may_refuse old new text = (new ≡ put_line old text) ⊎ (may_refuse × (new ≡ drops_one old))

-- what is said of an EID-Prefix that a Map-Request asks for, with the address that the line names: where Map-Replies go, or the router that
-- the Map-Request goes on to
abbrev pub answer_to : Addr → Outcome → Repeated × Addr
answer_to to (outcomes.Replied records) = (repeated.Replied, to)
answer_to to (outcomes.Negative hole) = (repeated.Negative, to)
answer_to to (outcomes.Forwarded router) = (repeated.Forwarded, router)
answer_to to outcomes.Silent = (repeated.Unanswered, to)

-- what a line says that may repeat, with the address that it names: a refusal of a datagram, by its number and source address; or an answer
abbrev pub repeating : Printed → Option (Repeated × Addr)
repeating (printed.Heard (lines.Refused node what) from) = Some (repeated.Refused (refusal_number what), from)
repeating (printed.Unasked from why) = Some (repeated.Refused (unasked_number why), from)
repeating (printed.OverBudget from) = Some (repeated.Refused over_budget_number, from)
repeating (printed.Asked eid to outcome) = Some (answer_to to outcome)
repeating _ = None

-- whether a line is told: each is, but for one that repeats another
abbrev pub IsToldOf : Option (Repeated × Addr) → List Repeat → List Repeat → Bool → Type 0
IsToldOf (Some it) old new told = TellsEvent old new it.0 it.1 told
IsToldOf None old new told = (new ≡ old) × (told ≡ true)

abbrev pub PutsIf : Type 0 → Bool → WaitingState → WaitingState → List ℕ → Type 0
PutsIf may_refuse true old new text = Puts may_refuse old new text
PutsIf may_refuse false old new text = new ≡ old

-- and where there is one
abbrev pub PutsSome : Type 0 → WaitingState → WaitingState → Option (List ℕ) → Type 0
PutsSome may_refuse old new (Some text) = Puts may_refuse old new text
PutsSome may_refuse old new None = new ≡ old

-- a router counts what a Map-Server acknowledged
abbrev pub AcknowledgesBy : Printed → List Silence → List Silence → ℕ → Type 0
AcknowledgesBy (printed.Heard (lines.Counted router server part key nonce) from) old new now = Acknowledges old new server now
AcknowledgesBy _ old new now = new ≡ old

-- the nonce that is saved, where a Map-Register is refused as a replay
abbrev pub saved_in : Refusal → Option ℕ
saved_in (refusals.Receive (refused.Replay saved)) = Some saved
saved_in _ = None

-- it is noted in the run of its source address; where one is accepted, that address has no run any more
abbrev pub NotesRefusal : Option ℕ → Addr → List Replay → List Replay → ℕ → Type 0
NotesRefusal (Some saved) from old new now = Replayed old new from saved now
NotesRefusal None from old new now = new ≡ old

abbrev pub NotesReplay : Printed → List Replay → List Replay → ℕ → Type 0
NotesReplay (printed.Heard (lines.Refused node what) from) old new now = NotesRefusal (saved_in what) from old new now
NotesReplay (printed.Heard (lines.Accepted server router key nonce datagram) from) old new now = new ≡ without from old
NotesReplay _ old new now = new ≡ old

-- a router is heard from an address at a moment; if it moved, that waits
pub record HearsRouter (may_refuse : Type 0) (old new : LogState) (router : RouterId) (from : Addr) (now : ℕ) : Type 0 where
  pub hears : Hears may_refuse old.moves new.moves router from now
  pub waiting : PutsSome may_refuse old.waiting new.waiting (option_map (λ last. moved_text old.config old.name router last from) (moved_from (where_is old.moves router) from now))
  pub rest : new ≡ record old { moves = new.moves; waiting = new.waiting }

abbrev pub HearsBy : Type 0 → LogState → LogState → Option (RouterId × Addr) → ℕ → Type 0
HearsBy may_refuse old new (Some heard) now = HearsRouter may_refuse old new heard.0 heard.1 now
HearsBy may_refuse old new None now = new ≡ old

-- a line is told, or counted
pub record TellsPrinted (may_refuse : Type 0) (old new : LogState) (line : Printed) (cause : Option (List ℕ)) (now : ℕ) : Type 0 where
  pub told : Bool
  pub repeats : IsToldOf (repeating line) old.repeats new.repeats told
  pub silences : AcknowledgesBy line old.silences new.silences now
  pub replays : NotesReplay line old.replays new.replays now
  pub waiting : PutsIf may_refuse told old.waiting new.waiting (told_text old.config old.name cause line)
  pub rest : new ≡ record old { repeats = new.repeats; silences = new.silences; replays = new.replays; waiting = new.waiting }

-- the node prints a line, at a moment; behind it, that a router moved
pub record TellsLine (may_refuse : Type 0) (old new : LogState) (line : Printed) (cause : Option (List ℕ)) (now : ℕ) : Type 0 where
  pub between : LogState
  pub printed : TellsPrinted may_refuse old between line cause now
  pub heard : HearsBy may_refuse between new (heard_in line) now

-- a line that tells so many events
pub record Sum : Type 0 where
  pub text : List ℕ
  pub events : ℕ

-- it waits; where memory may be refused, it may be dropped, and so are its events
abbrev pub PutsSum : Type 0 → WaitingState → WaitingState → Sum → Type 0
PutsSum may_refuse old new sum = (new ≡ put_sum old sum.text sum.events) ⊎ (may_refuse × (new ≡ drops old sum.events))

-- each of these sums waits in turn
abbrev pub PutsAll : Type 0 → WaitingState → WaitingState → List Sum → Type 0
PutsAll may_refuse old new [] = new ≡ old
PutsAll may_refuse old new (sum ∷ others) = (between : WaitingState) × PutsSum may_refuse old between sum × PutsAll may_refuse between new others

-- the sums of a second that is over: of each entry that counts some
abbrev pub sum_of : List ℕ → Repeat → List Sum
sum_of name r = if r.times == 0 then [] else record { text = repeat_text name r; events = r.times } ∷ []

abbrev pub sums : List ℕ → List Repeat → List Sum
sums name repeats = flat_map (sum_of name) repeats

-- the second of a moment
abbrev pub IsSecondOf : ℕ → ℕ → Type 0
IsSecondOf now second = (second * 1000 ≤ now) × (now < second * 1000 + 1000)

-- a second is over where another one is now: its sums wait
abbrev pub EndsSecond : Type 0 → LogState → LogState → ℕ → Type 0
EndsSecond may_refuse old new now = (IsSecondOf now old.second × (new ≡ old))
    ⊎ ((IsSecondOf now old.second → ⊥) × IsSecondOf now new.second × (new.repeats ≡ [])
    × PutsAll may_refuse old.waiting new.waiting (sums old.name old.repeats)
    × (new ≡ record old { repeats = []; second = new.second; waiting = new.waiting }))

-- a Map-Server that is silent is told
pub record TellsOneSilence (may_refuse : Type 0) (old new : LogState) (now : ℕ) (told : ℕ × ℕ) : Type 0 where
  pub silence : TellsSilence old.silences new.silences now told
  pub waiting : Puts may_refuse old.waiting new.waiting (silent_text old.config old.name told.0 told.1)
  pub rest : new ≡ record old { silences = new.silences; waiting = new.waiting }

-- each Map-Server that is silent is told
abbrev pub TellsSilences : Type 0 → LogState → LogState → ℕ → List (ℕ × ℕ) → Type 0
TellsSilences may_refuse old new now [] = NoneSilent old.silences now × (new ≡ old)
TellsSilences may_refuse old new now (told ∷ others) = (between : LogState) × TellsOneSilence may_refuse old between now told × TellsSilences may_refuse between new now others

-- a run of replays is told
pub record TellsOneReplay (may_refuse : Type 0) (old new : LogState) (now : ℕ) (told : Replay) : Type 0 where
  pub replay : TellsReplay old.replays new.replays now told
  pub waiting : Puts may_refuse old.waiting new.waiting (replay_text old.name told now)
  pub rest : new ≡ record old { replays = new.replays; waiting = new.waiting }

-- each run is told that is to be told
abbrev pub TellsReplays : Type 0 → LogState → LogState → ℕ → List Replay → Type 0
TellsReplays may_refuse old new now [] = NoneDue old.replays now × (new ≡ old)
TellsReplays may_refuse old new now (told ∷ others) = (between : LogState)
    × TellsOneReplay may_refuse old between now told × TellsReplays may_refuse between new now others

-- the runs end that don't go on
abbrev pub ends_runs : LogState → ℕ → LogState
ends_runs l now = record l { replays = ongoing now l.replays }

-- time passes: a second may be over; then each Map-Server that is silent is told, and of the runs that
-- go on each that is to be told
pub record Passes (may_refuse : Type 0) (old new : LogState) (now : ℕ) : Type 0 where
  pub between : LogState
  pub second : EndsSecond may_refuse old between now
  pub silent : LogState
  pub told : List (ℕ × ℕ)
  pub silences : TellsSilences may_refuse between silent now told
  pub runs : List Replay
  pub replays : TellsReplays may_refuse (ends_runs silent now) new now runs

-- What a client is promised of the answers that it got, and why it may have got none.
use Rattle.std.specs.Prelude.{◌≡◌, ◌⊎◌, ℕ, true, false, List, [], map, reverse, take, slice_get, slice_index_or, Option, Some, None}
use Rattle.std.specs.FinMap.{empty}
use Rattle.std.specs.List.{Contains}
use Rattle.std.specs.Option.{option_and_then}
use Rattle.lisp_records.specs.Row.{RowValue}
use Rattle.lisp_policy.specs.Configuration.{ConfigValue}
use Rattle.lisp_model.specs.declared.event.Event.{Event}
use Rattle.lisp_model.specs.Trace.{EventValue, event_value, Step, Opening, shown_store, router_at, clock, is_server, is_router, is_up}
use Rattle.lisp_model.specs.Counted.{acked}
use Rattle.lisp_model.specs.Numbers.{part_numbers}
use Rattle.lisp_model.specs.Held.{rows}
use Rattle.lisp_model.specs.Bag.{since_start}
use Rattle.lisp_model.specs.Clean.{Clean}
use Rattle.lisp_model.specs.Legal.{LegalTrace}
use Rattle.lisp_model.specs.declared.world_fault.WorldFault.{WorldFault}
use Rattle.lisp_refinement.specs.World.{WorldState}
use Rattle.lisp_refinement.specs.Stands.{Stands}
use Rattle.lisp_refinement.specs.Headline.{Promises}
use Rattle.lisp_world.specs.Faults.{fault_of}
use Rattle.lisp_world.specs.Openings.{repeats}
use Rattle.lisp_client.specs.declared.answers.Answers.{Answers}
use Rattle.lisp_client.specs.declared.question.Question.{Question}
use Rattle.lisp_client.specs.Promised.{NoncesRise, ReplaysAreTried, AcceptedWereSent, WasRegistered, RowsAgree, CountedWasAccepted, CountedWereAccepted, DoneWasNoticed, NoticeNoncesRise}

-- a network of the configuration, whose stores began with nothing kept, stands for a trace of these events, and keeps
-- the headline
pub record HasRun (c : ConfigValue) (events : List EventValue) (w : WorldState) : Type 0 where
  pub opening : Opening
  pub config : opening.config ≡ c
  pub nothing_kept : (node : ℕ) → (shown_store opening [] node).kept ≡ empty
  pub trace : List Step
  pub events_are : map (λ s. s.event) trace ≡ reverse events
  pub stands : Stands w opening trace
  pub promises : Promises w

-- what a trace counts last of a part from the Map-Server at a place of a router's list; nothing behind the list's end,
-- nor of a part that no database may have
abbrev pub counted_of : List (Option (ℕ × ℕ)) → ℕ → Option (ℕ × ℕ)
counted_of counted part = slice_index_or counted part None

abbrev pub counted_at : ConfigValue → List Step → ℕ → ℕ → ℕ → Option (ℕ × ℕ)
counted_at c T router place part =
    option_and_then (λ server. counted_of (map (acked T router server) part_numbers) part)
    (slice_get (router_at c router).servers place)

-- where nobody outside knows a secret
pub record IsPromisedOverClean (o : Opening) (T : List Step) (question : Question)
    (listed listed_by_other : List RowValue) (counted : Option (ℕ × ℕ)) : Type 0 where
  pub accepted_were_sent : AcceptedWereSent o T
  pub registered : (row : RowValue) → Contains listed row → WasRegistered o T question.server row
  pub registered_at_other : (row : RowValue) → Contains listed_by_other row → WasRegistered o T question.other row
  pub agree : RowsAgree o T question.server question.other listed listed_by_other
  pub counted_was_accepted : (key nonce server : ℕ)
      → slice_get (router_at o.config question.router).servers question.place ≡ Some server
      → counted ≡ Some (key, nonce) → CountedWasAccepted o T question.router server question.part key nonce
  pub counted_were_accepted : CountedWereAccepted o T
  pub done : DoneWasNoticed o T

-- there is a legal trace of the client's events, over stores that began with nothing, that keeps these promises, and by
-- it the rows are all that the two Map-Servers hold, and what the router counted is what the trace counts
pub record IsPromised (c : ConfigValue) (events : List EventValue) (question : Question)
    (listed listed_by_other : List RowValue) (counted : Option (ℕ × ℕ)) : Type 0 where
  pub opening : Opening
  pub config : opening.config ≡ c
  pub nothing_kept : (node : ℕ) → (shown_store opening [] node).kept ≡ empty
  pub trace : List Step
  pub legal : LegalTrace opening trace
  pub events_are : map (λ s. s.event) trace ≡ reverse events
  pub held : listed ≡ rows (since_start opening trace question.server) (clock trace)
  pub held_by_other : listed_by_other ≡ rows (since_start opening trace question.other) (clock trace)
  pub counts : counted ≡ counted_at c trace question.router question.place question.part
  pub nonces_rise : NoncesRise trace
  pub replays_are_tried : ReplaysAreTried opening trace
  pub notice_nonces_rise : NoticeNoncesRise trace
  pub over_clean : Clean opening trace → IsPromisedOverClean opening trace question listed listed_by_other counted

-- an event isn't taken: a network of the configuration that took those before it has a fault of it
pub record IsNotTaken (c : ConfigValue) (events : List EventValue) : Type 0 where
  pub place : ℕ
  pub event : EventValue
  pub there : slice_get events place ≡ Some event
  pub network : WorldState
  pub ran : HasRun c (take place events) network
  pub fault : WorldFault
  pub why : fault_of network event ≡ Some fault

-- all are taken, and then a number isn't a Map-Server's, or another not that of a router that is up
pub record IsNotThere (c : ConfigValue) (events : List EventValue) (question : Question) : Type 0 where
  pub network : WorldState
  pub ran : HasRun c events network
  pub missing : (is_server c question.server ≡ false) ⊎ (is_server c question.other ≡ false)
      ⊎ (is_router c question.router ≡ false) ⊎ (is_up ran.trace question.router ≡ false)

-- why no network takes the events: two nodes are alike, an event isn't taken, or memory may be refused
abbrev pub HasNotRun : Type 0 → ConfigValue → List EventValue → Type 0
HasNotRun memory c events = (repeats c ≡ true) ⊎ IsNotTaken c events ⊎ memory

-- and why a client is told nothing
abbrev pub IsUntold : Type 0 → ConfigValue → List EventValue → Question → Type 0
IsUntold memory c events question = HasNotRun memory c events ⊎ IsNotThere c events question

-- what a client of a network's events is promised of all its answers
abbrev pub TellsPromised : {A E : Type 0} → ConfigValue → List (Event E) → Question → Answers A → Type 0
TellsPromised c events question told =
    IsPromised c (map event_value events) question told.rows.items told.other_rows.items told.counted

-- so it is with whichever events led to the network that tells
abbrev pub HearsPromised : {A : Type 0} → WorldState → Question → Answers A → Type 0
HearsPromised w question told = (c : ConfigValue) (events : List EventValue) → HasRun c events w
    → IsPromised c events question told.rows.items told.other_rows.items told.counted

-- why a client of a network's events is told nothing, and why no network takes them
abbrev pub TellsNothing : {E : Type 0} → Type 0 → ConfigValue → List (Event E) → Question → Type 0
TellsNothing memory c events question = IsUntold memory c (map event_value events) question

abbrev pub NoneTakes : {E : Type 0} → Type 0 → ConfigValue → List (Event E) → Type 0
NoneTakes memory c events = HasNotRun memory c (map event_value events)

-- why nothing is heard of a network, whichever events led to it
abbrev pub HearsNothing : Type 0 → WorldState → Question → Type 0
HearsNothing memory w question =
    memory ⊎ ((c : ConfigValue) (events : List EventValue) → HasRun c events w → IsNotThere c events question)

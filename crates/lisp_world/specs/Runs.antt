-- What running events comes to.
use Rattle.std.specs.Prelude.{◌≡◌, ◌⊎◌, ◌<◌, ℕ, List, [], ◌∷◌, ◌++◌, length, map, reverse, take, slice_get, Some, Result, MatchResult}
use Rattle.lisp_model.specs.Trace.{EventValue, event_value, Step, Opening}
use Rattle.lisp_model.specs.declared.event.Event.{Event}
use Rattle.lisp_model.specs.declared.line.Line.{Line}
use Rattle.lisp_refinement.specs.World.{WorldState}
use Rattle.lisp_world.specs.Faults.{fault_of}
use Rattle.lisp_world.specs.Taking.{TookEvent}
use Rattle.lisp_refinement.specs.Stands.{Stands}
use Rattle.lisp_model.specs.declared.world_fault.WorldFault.{WorldFault}
use Rattle.lisp_model.specs.declared.world_fault.WorldFault.TheVariants.{OutOfMemory}

-- steps of these events with these lines, the last one first
pub record Follows (old new : WorldState) (o : Opening) (T : List Step) (events : List EventValue) (lines : List Line)
    : Type 0 where
  pub steps : List Step
  pub events_are : map (λ s. s.event) steps ≡ reverse events
  pub lines_are : map (λ s. s.line) steps ≡ reverse lines
  pub stands : Stands new o (steps ++ T)

-- a chain of networks: each takes an event, and comes to the next one with the event's line
abbrev pub Chain : Type 0 → Type 0 → WorldState → List EventValue → List Line → WorldState → Type 0
Chain node_may store_may old [] [] new = new ≡ old
Chain node_may store_may old (event ∷ events) (line ∷ lines) new =
    (next : WorldState) × TookEvent node_may store_may old next event line
    × Chain node_may store_may next events lines new
Chain node_may store_may old _ _ new = ⊥

-- the lines of the events were added, one for each, by a chain of networks; and for every trace that the network stood
-- for, it stands for that trace followed by steps of these events with these lines
pub record RunsOn (node_may store_may : Type 0) (old new : WorldState) (before after : List Line)
    (events : List EventValue) : Type 0 where
  pub lines : List Line
  pub added : after ≡ before ++ lines
  pub chain : Chain node_may store_may old events lines new
  pub follows : (o : Opening) (T : List Step) → Stands old o T → Follows old new o T events lines

-- the events before a place were run, and the event there is refused
pub record StopsAt (node_may store_may : Type 0) (old new : WorldState) (before after : List Line)
    (events : List EventValue) (place : ℕ) (fault : WorldFault) : Type 0 where
  pub within : place < length events
  pub runs : RunsOn node_may store_may old new before after (take place events)
  pub event : EventValue
  pub there : slice_get events place ≡ Some event
  pub why : (fault_of new event ≡ Some fault) ⊎ (fault ≡ OutOfMemory)

-- all events were run; or those before a place, which is told with why the event there is refused
abbrev pub Runs : {A : Type 0} → Type 0 → Type 0 → WorldState → WorldState → List Line → List Line → List (Event A)
    → Result (Unit {0}) (ℕ × WorldFault) → Type 0
Runs node_may store_may old new before after events result = MatchResult result
    (λ done. RunsOn node_may store_may old new before after (map event_value events))
    (λ at. StopsAt node_may store_may old new before after (map event_value events) at.0 at.1)

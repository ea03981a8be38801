-- What it comes to that a network takes an event.
use Rattle.std.specs.Prelude.{◌≡◌, ◌⊎◌, Option, Some, None, Result, Ok, Err}
use Rattle.lisp_model.specs.Memory.{MayTell}
use Rattle.lisp_model.specs.Trace.{EventValue, fate_of}
use Rattle.lisp_model.specs.declared.line.Line.{Line}
use Rattle.lisp_model.specs.declared.world_fault.WorldFault.{WorldFault}
use Rattle.lisp_model.specs.declared.world_fault.WorldFault.TheVariants.{OutOfMemory}
use Rattle.lisp_refinement.specs.World.{WorldState}
use Rattle.lisp_refinement.specs.Stands.{StandsAfter}
use Rattle.lisp_world.specs.Faults.{fault_of, refusal_of}
use Rattle.lisp_world.specs.Quiet.{KeepsCalm}

-- it was taken, with this line
pub record TookEvent (node_may store_may : Type 0) (old new : WorldState) (event : EventValue) (line : Line)
    : Type 0 where
  pub possible : fault_of old event ≡ None
  pub stands : StandsAfter old new event line
  pub calm : KeepsCalm old new (fate_of event)
  pub tells : MayTell node_may store_may line

-- why something with a fault, or with none, is refused
abbrev pub RefusesEvent : Type 0 → Option WorldFault → WorldFault → Type 0
RefusesEvent node_may fault why = (fault ≡ Some why) ⊎ ((fault ≡ None) × (why ≡ OutOfMemory) × node_may)

-- a network takes an event; or it refuses it, and nothing changed
abbrev pub Takes : Type 0 → Type 0 → WorldState → WorldState → EventValue → Result Line WorldFault → Type 0
Takes node_may store_may old new event (Ok line) = TookEvent node_may store_may old new event line
Takes node_may store_may old new event (Err why) = (new ≡ old) × RefusesEvent node_may (fault_of old event) why

-- what passed a check, and found room for one more datagram
abbrev pub HasRoom : {X : Type 0} → Type 0 → Result X WorldFault → Result X WorldFault → Type 0 → Type 0
HasRoom node_may checked (Ok x) Room = (checked ≡ Ok x) × Room
HasRoom node_may checked (Err why) Room = RefusesEvent node_may (refusal_of checked) why

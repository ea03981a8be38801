-- What becomes of what a user tells a node in a turn.
use Rattle.std.specs.Prelude.{◌≡◌, ℕ, Bool, true, List, [], ◌∷◌, Option, Some, None, Result, Ok, Err}
use Rattle.lisp_policy.specs.Configuration.{ConfigValue}
use Rattle.lisp_model.specs.declared.line.Line.{Line}
use Rattle.lisp_model.specs.declared.world_fault.WorldFault.{WorldFault}
use Rattle.lisp_turns.specs.Act.{ActValue}
use Rattle.lisp_turns.specs.Acts.{DoesOne, TurnAct}
use Rattle.lisp_turns.specs.Node.{NodeState}
use Rattle.lisp_turns.specs.Order.{event_of, order_fault}
use Rattle.lisp_turns.specs.declared.order.Order.{Order}

-- what came of an order: an act of the node, or what keeps it from being told so; nothing, where there was none
abbrev pub Outcome : Type 0
Outcome = Option (Result ActValue WorldFault)

-- the node with a number was told so, or nothing
abbrev pub Obeys : Type 0 → ConfigValue → ℕ → NodeState → NodeState → ℕ → Option Order → Outcome → Type 0
Obeys A config number old new now (Some order) (Some (Ok act)) = DoesOne A config number old new now (event_of number order) act
Obeys A config number old new now (Some order) (Some (Err fault)) = (new ≡ old) × (order_fault config old order ≡ Some fault)
Obeys A config number old new now None None = new ≡ old
Obeys A config number old new now _ _ = ⊥

-- its act is told; whether the socket took its message
abbrev pub obeyed : ℕ → Option Order → Outcome → Bool → List TurnAct
obeyed number (Some order) (Some (Ok act)) taken = record { event = event_of number order; act = act; told = true; taken = taken } ∷ []
obeyed number _ _ taken = []

-- and what the user is told
abbrev pub answer_of : Outcome → Option (Result Line WorldFault)
answer_of (Some (Ok act)) = Some (Ok act.line)
answer_of (Some (Err fault)) = Some (Err fault)
answer_of None = None

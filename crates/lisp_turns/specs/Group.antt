-- What a node takes in in a turn: it hears one datagram after the other, does what a user tells it, and tells of that later.
use Rattle.std.specs.Prelude.{◌≡◌, ◌⊎◌, ℕ, ◌-◌, ◌≤◌, Bool, true, false, List, [], ◌∷◌, ◌++◌, length, map, drop, Option, Some, None, Ok}
use Rattle.std.specs.List.{AllByRecursion}
use Rattle.lisp_memory.specs.Refusal.{MachineMayRefuse}
use Rattle.lisp_policy.specs.Configuration.{ConfigValue}
use Rattle.lisp_model.specs.declared.event.Event.TheVariants as events
use Rattle.lisp_turns.specs.Acts.{DoesOne}
use Rattle.lisp_turns.specs.Node.{NodeState}
use Rattle.lisp_turns.specs.Obeying.{Outcome, Obeys}
use Rattle.lisp_turns.specs.Outside.{Reception, Datagram, Polls, Listens, OutsideState, IsApart}
use Rattle.lisp_turns.specs.Stretch.{Asks, Tells}
use Rattle.lisp_turns.specs.Turn.{IsDatagram, EndsInDatagram, IsGroup}
use Rattle.lisp_turns.specs.declared.group.Heard.{Heard}
use Rattle.lisp_turns.specs.declared.order.Order.{Order}
use Rattle.lisp_turns.specs.declared.outside.Printed.TheVariants as printed

-- a node heard each datagram of what was received, the newest first: it was given the bytes as they came, from where they came
abbrev pub HearsEach : Type 0 → ConfigValue → ℕ → ℕ → List Reception → List Heard → NodeState → NodeState → Type 0
HearsEach A config number now [] heard old new = (heard ≡ []) × (new ≡ old)
HearsEach A config number now (Datagram from bytes ∷ earlier) heard old new = (newest : Heard) × (rest : List Heard) × (between : NodeState)
    × (heard ≡ newest ∷ rest) × (newest.from ≡ from) × HearsEach A config number now earlier rest old between
    × DoesOne A config number between new now (events.Junk number from bytes) newest.act
HearsEach A config number now (_ ∷ earlier) heard old new = HearsEach A config number now earlier heard old new

-- a datagram came, and the node heard it; or none did
abbrev pub IsHeard : Type 0 → ConfigValue → ℕ → ℕ → Reception → Option Heard → NodeState → NodeState → Type 0
IsHeard A config number now (Datagram from bytes) (Some heard) old new = (heard.from ≡ from)
    × DoesOne A config number old new now (events.Junk number from bytes) heard.act
IsHeard A config number now (Datagram from bytes) None old new = ⊥
IsHeard A config number now _ (Some heard) old new = ⊥
IsHeard A config number now _ None old new = new ≡ old

-- so it was with the next that waited
pub record HearsNext (A : Type 0) (config : ConfigValue) (number : ℕ) (old new : NodeState) (now : ℕ) (next : Option Heard)
    (before after : OutsideState) : Type 0 where
  pub reception : Reception
  pub apart : IsApart before.is_asked reception
  pub heard : IsHeard A config number now reception next old new
  pub asked : Asks before after (Polls reception ∷ [])

-- a node heard those that waited behind the first datagram, the newest first
pub record HearsOthers (A : Type 0) (config : ConfigValue) (number places : ℕ) (old new : NodeState) (now : ℕ) (heard : List Heard)
    (before after : OutsideState) : Type 0 where
  pub others : List Reception
  pub apart : AllByRecursion (IsApart before.is_asked) others
  pub few : length others ≤ places - 1
  pub datagrams : AllByRecursion IsDatagram (drop 1 others)
  pub full : EndsInDatagram others → (length others ≡ places - 1) ⊎ MachineMayRefuse
  pub hears : HearsEach A config number now others heard old new
  pub asked : Asks before after (map Polls others)

-- a node heard the group of a turn, the newest first
pub record HearsGroup (A : Type 0) (config : ConfigValue) (number places : ℕ) (old new : NodeState) (now : ℕ) (first : Reception) (heard : List Heard)
    (before after : OutsideState) : Type 0 where
  pub others : List Reception
  pub apart : AllByRecursion (IsApart before.is_asked) others
  pub group : IsGroup places first others
  pub hears : HearsEach A config number now (others ++ first ∷ []) heard old new
  pub asked : Asks before after (map Polls others)

-- and it did what a user told it
pub record TakesAll (A : Type 0) (config : ConfigValue) (number places : ℕ) (old new : NodeState) (now : ℕ) (first : Reception) (heard : List Heard)
    (outcome : Outcome) (before after : OutsideState) : Type 0 where
  pub between : NodeState
  pub listening : OutsideState
  pub hears : HearsGroup A config number places old between now first heard before listening
  pub order : Option Order
  pub obeys : Obeys A config number between new now order outcome
  pub asked : Asks listening after (Listens order ∷ [])

-- what it made of the datagrams, the newest first, and what came of an order
pub record IntakeValue : Type 0 where
  pub heard : List Heard
  pub outcome : Outcome

-- it did something
abbrev pub has_acts : List Heard → Outcome → Bool
has_acts (h ∷ earlier) outcome = true
has_acts [] (Some (Ok act)) = true
has_acts [] _ = false

-- what a node heard was told, in its order; the newest first
abbrev pub TellsEach : List Heard → OutsideState → OutsideState → Type 0
TellsEach [] before after = after ≡ before
TellsEach (h ∷ earlier) before after = (between : OutsideState) × TellsEach earlier before between
    × Tells between after (printed.Heard h.act.line h.from) h.act.message

-- what came of an order was told behind that
abbrev pub TellsOutcome : Outcome → OutsideState → OutsideState → Type 0
TellsOutcome (Some (Ok act)) before after = Tells before after (printed.Event act.line) act.message
TellsOutcome _ before after = after ≡ before

abbrev pub TellsAll : List Heard → Outcome → OutsideState → OutsideState → Type 0
TellsAll heard outcome before after = (between : OutsideState) × TellsEach heard before between × TellsOutcome outcome between after

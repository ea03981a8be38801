-- A node may begin its turns late: its network's clock may be behind its own.
use Rattle.std.specs.Prelude.{◌≡◌, ℕ, suc, ◌≤◌, List}
use Rattle.lisp_policy.specs.Configuration.{ConfigValue}
use Rattle.lisp_model.specs.Trace.{Step, Opening}
use Rattle.lisp_refinement.specs.World.{WorldState}
use Rattle.lisp_refinement.specs.Stands.{Stands}
use Rattle.lisp_turns.specs.Node.{HasNode}
use Rattle.lisp_turns.specs.Part.{GoesOn}
use Rattle.lisp_turns.specs.Turn.{TurnState, Turns}

-- what a node prints and sends in its turns is a legal trace's part of it, also where the network's clock is behind the moment that the
-- node's clock told before; of no turn at all nothing is said
abbrev pub LateTurnsAreParts : Type 0 → Type 0
LateTurnsAreParts A = (config : ConfigValue) (number places count : ℕ) (s t : TurnState) → Turns A config number places (suc count) s t
    → (w : WorldState) (o : Opening) (T : List Step) → Stands w o T → o.config ≡ config → HasNode w number s.node
    → w.clock ≤ s.outside.moment → GoesOn number s t w o T

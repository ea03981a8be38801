-- One node of a network changes: the network has it then, and the others as they were.
use Rattle.std.proofs.Common.{◌≡◌, ℕ, zero, suc, ◌+◌, ◌-◌, ◌<◌, List, [], ◌∷◌, length, length-set, Some, refl, sym, ap, ◌∙◌, arith}
use Rattle.std.specs.Prelude.{◌≢◌, slice_get, slice_set}
use Rattle.std.proofs.lemmas.Option.{slice_get_within}
use Rattle.lisp_refinement.specs.World.{DatagramValue, WorldState}
use Rattle.lisp_refinement.proofs.Gets.{same_some}
use Rattle.lisp_turns.specs.Node.{NodeState, Server, Router, HasNode, with_node}

module _ {X : Type 0} where
  -- what was set at a place stands there
  pub get_set_there : (xs : List X) (i : ℕ) (x : X) → i < length xs → slice_get (slice_set xs i x) i ≡ Some x
  get_set_there [] i x low = absurd (omega (arith, low))
  get_set_there (a ∷ xs) zero x low = refl
  get_set_there (a ∷ xs) (suc i) x low = get_set_there xs i x (omega (arith, low))

  -- and at another place what stood there
  pub get_set_other : (xs : List X) (i k : ℕ) (y x : X) → k ≢ i → slice_get xs k ≡ Some x → slice_get (slice_set xs i y) k ≡ Some x
  get_set_other [] i k y x other at = at
  get_set_other (a ∷ xs) zero zero y x other at = absurd (other refl)
  get_set_other (a ∷ xs) zero (suc k) y x other at = at
  get_set_other (a ∷ xs) (suc i) zero y x other at = at
  get_set_other (a ∷ xs) (suc i) (suc k) y x other at = get_set_other xs i k y x (λ same. other (ap suc same)) at

  -- where the same is set nothing changes
  pub set_same : (xs : List X) (i : ℕ) (x : X) → slice_get xs i ≡ Some x → slice_set xs i x ≡ xs
  set_same [] i x at = refl
  set_same (a ∷ xs) zero x at = ap (λ (y : X). y ∷ xs) (sym (same_some a x at))
  set_same (a ∷ xs) (suc i) x at = ap (λ (l : List X). a ∷ l) (set_same xs i x at)

-- a network has a node of that kind with the number
abbrev pub IsThere : WorldState → ℕ → NodeState → Type 0
IsThere w number (Server n) = number < length w.servers
IsThere w number (Router n) = (place : ℕ) × (number ≡ length w.servers + place) × (place < length w.routers)

pub has_there : (w : WorldState) (number : ℕ) (node : NodeState) → HasNode w number node → IsThere w number node
has_there w number (Server n) has = slice_get_within w.servers number n has
has_there w number (Router n) (place, number_is, has) = (place, number_is, slice_get_within w.routers place n has)

-- the network with the node, at a moment and with a bag
module _ (w : WorldState) (number clock : ℕ) (bag : List DatagramValue) where
  abbrev pub with_one : NodeState → WorldState
  with_one node = record (with_node w number node) { clock = clock; bag = bag }

  pub has_one : (node : NodeState) → IsThere w number node → HasNode (with_one node) number node
  has_one (Server n) low = get_set_there w.servers number n low
  has_one (Router n) (place, number_is, low) =
      let at : number - length w.servers ≡ place = omega (arith, number_is) in
      (place, number_is, ap (λ m. slice_get (slice_set w.routers m n) place) at ∙ get_set_there w.routers place n low)

  pub has_others : (node : NodeState) → IsThere w number node → (k : ℕ) (other : NodeState) → k ≢ number → HasNode w k other → HasNode (with_one node) k other
  has_others (Server n) there k (Server m) differs has = get_set_other w.servers number k n m differs has
  has_others (Server n) there k (Router m) differs (place, k_is, has) = (place, k_is ∙ ap (λ l. l + place) (sym (length-set w.servers number n)), has)
  has_others (Router n) there k (Server m) differs has = has
  has_others (Router n) there k (Router m) differs (place, k_is, has) =
      (place, k_is, get_set_other w.routers (number - length w.servers) place n m (λ same. differs (omega (arith, same, k_is, there.1))) has)

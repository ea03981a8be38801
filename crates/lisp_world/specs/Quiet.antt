-- Stores that don't fail unasked.
use Rattle.std.specs.Prelude.{◌≡◌, ℕ, List, ◌++◌, map, slice_get, Some, Result, IsTrue, IfOk}
use Rattle.lisp_nonces.specs.Store.{StoreState}
use Rattle.lisp_nonces.specs.declared.fate.Fate.{Fate}
use Rattle.lisp_nonces.specs.declared.fate.Fate.TheVariants.{Done}
use Rattle.lisp_model.specs.declared.world_fault.WorldFault.{WorldFault}
use Rattle.lisp_refinement.specs.World.{WorldState}

-- the stores of the nodes, Map-Servers first
abbrev pub stores_of : WorldState → List StoreState
stores_of w = map (λ n. n.store) w.servers ++ map (λ n. n.store) w.routers

abbrev pub AllHonest : List StoreState → Type 0
AllHonest stores = (k : ℕ) (s : StoreState) → slice_get stores k ≡ Some s → IsTrue s.is_honest

-- a store obeys what it is armed with, and fails no more
pub record IsCalm (s : StoreState) : Type 0 where
  pub obedient : IsTrue s.is_obedient
  pub quiet : IsTrue s.is_quiet

abbrev pub AllCalm : List StoreState → Type 0
AllCalm stores = (k : ℕ) (s : StoreState) → slice_get stores k ≡ Some s → IsCalm s

-- how often their devices failed
abbrev pub failures : List StoreState → List ℕ
failures stores = map (λ s. s.faults) stores

-- calm stores are so after an event, and none failed but where its fate asks for that
pub record KeepsCalm (old new : WorldState) (fate : Fate) : Type 0 where
  pub calm : AllCalm (stores_of old) → AllCalm (stores_of new)
  pub unfailing : AllCalm (stores_of old) → fate ≡ Done → failures (stores_of new) ≡ failures (stores_of old)

-- a network that is made over calm stores has calm ones, none of which failed
abbrev pub StaysCalm : List StoreState → Result WorldState WorldFault → Type 0
StaysCalm stores result =
    AllCalm stores → IfOk result (λ w. AllCalm (stores_of w) × (failures (stores_of w) ≡ failures stores))

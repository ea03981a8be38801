-- What contracts see of a store, and what each of its calls keeps.
use Rattle.std.specs.Prelude.{◌≡◌, ◌≢◌, ◌⊎◌, ℕ, ◌-◌, ◌^◌, ◌<◌, ◌≤◌, Bool, IsTrue}
use Rattle.lisp_nonces.specs.declared.fate.Fate.{Fate}
use Rattle.lisp_nonces.specs.declared.fate.Fate.TheVariants.{Doubt, LoadFails}
use Rattle.lisp_nonces.specs.Kept.{Kept}

-- the lists; how often a device failed; whether the laws of the lists are said of it, whether it
-- fails no more, and whether it is obedient: it does what it is armed with, which says nothing of another
pub record StoreState : Type 0 where
  pub kept : Kept
  pub faults : ℕ
  pub is_honest : Bool
  pub is_quiet : Bool
  pub is_obedient : Bool
  pub fate : Fate

-- a device failed in between; the count stops at its end
abbrev pub Rose : StoreState → StoreState → Type 0
Rose old new = (old.faults < new.faults) ⊎ (new.faults ≡ 2 ^ 64 - 1)

-- what every load, save and restart keeps
pub record Proceeds (old new : StoreState) : Type 0 where
  pub honest : new.is_honest ≡ old.is_honest
  pub obedient : new.is_obedient ≡ old.is_obedient
  pub fate : new.fate ≡ old.fate
  pub count : old.faults ≤ new.faults
  pub quiet : IsTrue old.is_quiet → IsTrue new.is_quiet × (new.faults ≡ old.faults)

-- what an obedient store is armed with lets a load be answered, or fail; and a save
abbrev pub MayLoad : StoreState → Type 0
MayLoad s = IsTrue s.is_obedient → s.fate ≢ LoadFails

abbrev pub MayFailLoad : StoreState → Type 0
MayFailLoad s = IsTrue s.is_obedient → s.fate ≡ LoadFails

abbrev pub MaySave : StoreState → Type 0
MaySave s = IsTrue s.is_obedient → s.fate ≢ Doubt

abbrev pub MayFailSave : StoreState → Type 0
MayFailSave s = IsTrue s.is_obedient → s.fate ≡ Doubt

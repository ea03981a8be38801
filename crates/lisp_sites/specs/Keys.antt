-- The keys of elements.
use Rattle.std.specs.Prelude.{◌≡◌, Bool, true, List, [], ◌∷◌, ◌++◌, Vec}
use Rattle.std.specs.BTreeSet.{BTreeSet, Updates, IsUnchanged, contains}
use Rattle.std.specs.List.{list_any}
use Rattle.std.specs.declared.cmp.Ordering.{Ordering}

-- the keys are those of the elements
unfoldable pub AreKeys : {X K : Type 0} → (K → K → Ordering) → (K → K → Bool) → BTreeSet K → (X → K) → List X → Type 0
AreKeys {K = K} cmp eq keys key xs = (k : K) → contains cmp keys k ≡ list_any (λ x. eq (key x) k) xs

-- an element was added behind the others, and its key
abbrev pub AddsKeyed : {X K Z : Type 0} → (K → K → Ordering) → Vec X Z → Vec X Z → X → BTreeSet K → BTreeSet K → K → Type 0
AddsKeyed cmp old new x old_keys new_keys key = (new.items ≡ old.items ++ x ∷ []) × Updates cmp old_keys new_keys key true

-- elements and keys are as they were
abbrev pub KeepsKeyed : {X K Z : Type 0} → Vec X Z → Vec X Z → BTreeSet K → BTreeSet K → Type 0
KeepsKeyed old new old_keys new_keys = (new.items ≡ old.items) × IsUnchanged old_keys new_keys

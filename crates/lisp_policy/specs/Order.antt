-- Lists that are kept in the order of their elements' keys, so that an element is found by halving.
use Rattle.std.specs.Prelude.{◌≡◌, ◌≤◌, ℕ, List, length, map}
use Rattle.std.specs.List.{AllWithin}
use Rattle.std.specs.List.Sorted.{IsStrictlySortedBy}
use Rattle.std.specs.declared.cmp.Ordering.{Ordering}
use Rattle.std.specs.declared.cmp.Ordering.TheVariants.{Less, Greater}

-- the key of each element is below those of all after it
abbrev pub KeysRise : {X K : Type 0} → (X → K) → (K → K → Ordering) → List X → Type 0
KeysRise key cmp xs = IsStrictlySortedBy cmp (map key xs)

-- where an element of a key goes: the keys before it are below, and those from it on are above
pub record IsGap {X K : Type 0} (key : X → K) (cmp : K → K → Ordering) (xs : List X) (k : K) (place : ℕ) : Type 0 where
  pub within : place ≤ length xs
  pub below : AllWithin (λ x. cmp (key x) k ≡ Less) xs 0 place
  pub above : AllWithin (λ x. cmp (key x) k ≡ Greater) xs place (length xs)

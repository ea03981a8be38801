-- What stands at a place of a list that was set at a place, or has more at its end.
use Rattle.std.proofs.Common.{◌≡◌, ℕ, zero, suc, ◌<◌, List, [], ◌∷◌, ◌++◌, length, map, replicate, Option, Some, None, refl, inl, inr, arith}
use Rattle.std.specs.Prelude.{◌⊎◌, ◌≢◌, slice_get, slice_set}

-- nothing is not something
pub none_is_some : {X : Type 0} {x : X} → ◌≡◌ {A = Option X} None (Some x) → ⊥
none_is_some e = absurd cc

-- what two present values hold is one
pub same_some : {X : Type 0} (x y : X) → ◌≡◌ {A = Option X} (Some x) (Some y) → x ≡ y
same_some x y e = cc

module _ {X : Type 0} where
  -- the place that was set, or another one
  abbrev pub AtSet : List X → ℕ → ℕ → X → X → Type 0
  AtSet xs i k y x = ((k ≡ i) × (y ≡ x)) ⊎ ((k ≢ i) × (slice_get xs k ≡ Some x))

  -- one place further on
  next_set : (a : X) (xs : List X) (i k : ℕ) (y x : X) → AtSet xs i k y x → AtSet (a ∷ xs) (suc i) (suc k) y x
  next_set a xs i k y x (inl (same, is)) = inl (omega (arith, same), is)
  next_set a xs i k y x (inr (other, is)) = inr (λ same. other (omega (arith, same)), is)

  -- what stands after a place was set
  pub get_set : (xs : List X) (i k : ℕ) (y x : X) → slice_get (slice_set xs i y) k ≡ Some x → AtSet xs i k y x
  get_set [] i k y x e = absurd (none_is_some e)
  get_set (a ∷ xs) zero zero y x e = inl (refl, same_some y x e)
  get_set (a ∷ xs) zero (suc k) y x e = inr (λ same. absurd (omega (arith, same)), e)
  get_set (a ∷ xs) (suc i) zero y x e = inr (λ same. absurd (omega (arith, same)), e)
  get_set (a ∷ xs) (suc i) (suc k) y x e = next_set a xs i k y x (get_set xs i k y x e)

  -- what stood somewhere still stands there
  pub get_before : (xs ys : List X) (k : ℕ) (x : X) → slice_get xs k ≡ Some x → slice_get (xs ++ ys) k ≡ Some x
  get_before [] ys k x e = absurd (none_is_some e)
  get_before (a ∷ xs) ys zero x e = e
  get_before (a ∷ xs) ys (suc k) x e = get_before xs ys k x e

  -- something stands at each place
  pub get_within : (xs : List X) (k : ℕ) → k < length xs → (x : X) × (slice_get xs k ≡ Some x)
  get_within [] k within = absurd (omega (arith, within))
  get_within (a ∷ xs) zero within = (a, refl)
  get_within (a ∷ xs) (suc k) within = get_within xs k (omega (arith, within))

  -- and in a list of one element again and again, that one
  pub get_replicate : (n : ℕ) (x : X) (k : ℕ) (y : X) → slice_get (replicate n x) k ≡ Some y → x ≡ y
  get_replicate zero x k y e = absurd (none_is_some e)
  get_replicate (suc n) x zero y e = same_some x y e
  get_replicate (suc n) x (suc k) y e = get_replicate n x k y e

-- in two lists of one length, both with more at their ends, what stands at a place stood there, or is of what was added
module _ {X Y : Type 0} where
  pub record AtEnd (more : List X) (items : List Y) (x : X) (y : Y) : Type 0 where
    pub place : ℕ
    pub one : slice_get more place ≡ Some x
    pub other : slice_get items place ≡ Some y

  -- it stood there before, or was added
  abbrev pub Either : List X → List Y → List X → List Y → ℕ → X → Y → Type 0
  Either xs ys more items k x y = ((slice_get xs k ≡ Some x) × (slice_get ys k ≡ Some y)) ⊎ AtEnd more items x y

  -- what stands at one place of both
  pub get_both : (xs : List X) (ys : List Y) (more : List X) (items : List Y) → length xs ≡ length ys → (k : ℕ) (x : X) (y : Y)
      → slice_get (xs ++ more) k ≡ Some x → slice_get (ys ++ items) k ≡ Some y → Either xs ys more items k x y
  get_both [] [] more items count k x y one other = inr (record { place = k; one = one; other = other })
  get_both [] (b ∷ ys) more items count k x y one other = absurd (omega (arith, count))
  get_both (a ∷ xs) [] more items count k x y one other = absurd (omega (arith, count))
  get_both (a ∷ xs) (b ∷ ys) more items count zero x y one other = inl (one, other)
  get_both (a ∷ xs) (b ∷ ys) more items count (suc k) x y one other = get_both xs ys more items (omega (arith, count)) k x y one other

  -- what stands in a list of values of a function
  pub get_mapped : (f : X → Y) (xs : List X) (k : ℕ) (y : Y) → slice_get (map f xs) k ≡ Some y → (x : X) × (slice_get xs k ≡ Some x) × (f x ≡ y)
  get_mapped f [] k y e = absurd (none_is_some e)
  get_mapped f (a ∷ xs) zero y e = (a, refl, same_some (f a) y e)
  get_mapped f (a ∷ xs) (suc k) y e = get_mapped f xs k y e

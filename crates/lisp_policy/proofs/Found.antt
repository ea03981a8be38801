-- What setting one element of a list does to a look-up by key, where a test decides whether an element has a key.
use Rattle.std.proofs.Common.{◌≡◌, ◌≢◌, ℕ, ◌<◌, ◌≤◌, nat_lt, Bool, true, false, cond, List, [], ◌∷◌, ◌++◌, length, slice_set, slice_index_or, Option, Some, None, refl, sym, ap, ◌∙◌, subst, true≢false, arith}
use Rattle.std.specs.Bool.{Decides}
use Rattle.std.proofs.lemmas.Bool.Decides.{Decides-ltb}
use Rattle.std.specs.Option.{option_or}
use Rattle.std.specs.List.{find, position, position_or_len, slice_get}
use Rattle.std.proofs.lemmas.Option.{slice_get_past, slice_get-get_or}
use Rattle.std.proofs.lemmas.List.Folds.{find_at, find-set, find_past, find-append}
use Rattle.std.proofs.lemmas.List.Quantifiers.{position-Some}

pub or_none : {X : Type 0} (o : Option X) → option_or o None ≡ o
or_none None = refl
or_none (Some x) = refl

past : (n len : ℕ) (b : Bool) → nat_lt n len ≡ b → cond b (Some n) None ≡ None → len ≤ n
past n len true e at = absurd cc
past n len false e at = (let not_below : ¬ (n < len) = λ lt. true≢false (sym ((Decides-ltb n len).1 lt) ∙ e) in omega (arith, not_below))

within : (n len i : ℕ) (b : Bool) → nat_lt n len ≡ b → cond b (Some n) None ≡ Some i → i ≡ n
within n len i true e at = cc
within n len i false e at = absurd cc

pub not_true : (b : Bool) → (b ≡ true → ⊥) → b ≡ false
not_true true never = absurd (never refl)
not_true false never = refl

-- where no element has the key, nothing is found
pub nowhere : {X : Type 0} (p : X → Bool) (xs : List X) → position p xs ≡ None → find p xs ≡ None
nowhere p xs at = find_at p xs ∙ slice_get_past xs (position_or_len p xs) (past (position_or_len p xs) (length xs) (nat_lt (position_or_len p xs) (length xs)) refl at)

-- at a place, its element is found
pub at_place : {X : Type 0} (p : X → Bool) (xs : List X) (i : ℕ) (d : X) → position p xs ≡ Some i → find p xs ≡ Some (slice_index_or xs i d)
at_place p xs i d at =
    let place : i ≡ position_or_len p xs = within (position_or_len p xs) (length xs) i (nat_lt (position_or_len p xs) (length xs)) refl at in
    find_at p xs ∙ ap (λ (k : ℕ). slice_get xs k) (sym place) ∙ slice_get-get_or xs i d (position-Some p xs i d at).0

-- what is at a place is found
pub there : {X : Type 0} (p : X → Bool) (xs : List X) (i : ℕ) → position p xs ≡ Some i → find p xs ≢ None
there p [] i at none = absurd (let clash : ◌≡◌ {A = Option ℕ} None (Some i) = at in cc)
there p (x ∷ xs) i at none = absurd (let found = at_place p (x ∷ xs) i x at in cc)

module _ {X K : Type 0} (key : X → K) (has : K → X → Bool) (decides : (k : K) (x : X) → Decides (has k x) (key x ≡ k)) where
  -- an element has its own key
  pub has_own : (y : X) → has (key y) y ≡ true
  has_own y = (decides (key y) y).1 refl

  -- and no other
  pub has_no_other : (k : K) (y : X) → k ≢ key y → has k y ≡ false
  has_no_other k y differ = not_true (has k y) (λ t. differ (sym ((decides k y).0 t)))

  set_case : (xs : List X) (i : ℕ) (y : X) → position (has (key y)) xs ≡ Some i → (k : K) (b : Bool) → has k y ≡ b → find (has k) (slice_set xs i y) ≡ option_or (cond b (Some y) None) (find (has k) xs)
  set_case xs i y at k true t =
      let own : key y ≡ k = (decides k y).0 t in
      let found = subst (λ (q : K). position (has q) xs ≡ Some i) own at in
      find-set (has k) xs i y (within (position_or_len (has k) xs) (length xs) i (nat_lt (position_or_len (has k) xs) (length xs)) refl found) (position-Some (has k) xs i y found).0 t
  set_case xs i y at k false t =
      let old = (position-Some (has (key y)) xs i y at).1 in
      let same : key (slice_index_or xs i y) ≡ key y = (decides (key y) (slice_index_or xs i y)).0 old in
      find_past (has k) xs i y y (has_no_other k (slice_index_or xs i y) (λ e. true≢false (sym ((decides k y).1 (sym same ∙ sym e)) ∙ t))) t

  -- the first element of the key was set
  pub put_set : (xs : List X) (i : ℕ) (y : X) → position (has (key y)) xs ≡ Some i → (k : K) → find (has k) (slice_set xs i y) ≡ option_or (cond (has k y) (Some y) None) (find (has k) xs)
  put_set xs i y at k = set_case xs i y at k (has k y) refl

  push_case : (xs : List X) (y : X) → position (has (key y)) xs ≡ None → (k : K) (b : Bool) → has k y ≡ b → option_or (find (has k) xs) (cond b (Some y) None) ≡ option_or (cond b (Some y) None) (find (has k) xs)
  push_case xs y at k true t =
      let own : key y ≡ k = (decides k y).0 t in
      ap (λ (o : Option X). option_or o (Some y)) (nowhere (has k) xs (subst (λ (q : K). position (has q) xs ≡ None) own at))
  push_case xs y at k false t = or_none (find (has k) xs)

  -- an element of the key was added, where there was none
  pub put_push : (xs : List X) (y : X) → position (has (key y)) xs ≡ None → (k : K) → find (has k) (xs ++ y ∷ []) ≡ option_or (cond (has k y) (Some y) None) (find (has k) xs)
  put_push xs y at k = find-append (has k) xs (y ∷ []) ∙ push_case xs y at k (has k y) refl

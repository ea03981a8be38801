-- Looking for the first element that passes a test, as a loop does.
use Rattle.std.proofs.Common.{◌≡◌, ℕ, ◌+◌, ◌<◌, ◌≤◌, Bool, true, false, List, [], ◌∷◌, length, get_or, drop, position, Some, None, refl, sym, ◌∙◌, add-one, drop-cons, arith, length-drop}
use Rattle.std.specs.List.{position_from}
use Rattle.std.proofs.lemmas.Iterator.Adapters.{position_from-zero}

module _ {X : Type 0} (p : X → Bool) (xs : List X) where
  behind : (i : ℕ) (d : X) → i < length xs → drop i xs ≡ get_or xs i d ∷ drop (i + 1) xs
  behind i d lt = rw add-one (drop-cons xs i d lt)

  pub begins : position_from p 0 xs ≡ position p xs
  begins = sym (position_from-zero p xs)

  pub is_found : (i : ℕ) (d : X) → i < length xs → p (get_or xs i d) ≡ true → position_from p i (drop i xs) ≡ position p xs → Some i ≡ position p xs
  is_found i d lt passes so_far =
      let one : position_from p i (drop i xs) ≡ Some i = rw (behind i d lt, passes) refl in
      sym one ∙ so_far

  pub goes_on : (i : ℕ) (d : X) → i < length xs → p (get_or xs i d) ≡ false → position_from p i (drop i xs) ≡ position p xs → position_from p (i + 1) (drop (i + 1) xs) ≡ position p xs
  goes_on i d lt fails so_far =
      let one : position_from p i (drop i xs) ≡ position_from p (i + 1) (drop (i + 1) xs) = rw (behind i d lt, fails) refl in
      sym one ∙ so_far

  none_left : (i : ℕ) (rest : List X) → length rest ≡ 0 → position_from p i rest ≡ None
  none_left i [] empty = refl
  none_left i (x ∷ rest) empty = absurd (omega (arith, empty))

  pub is_nowhere : (i : ℕ) → length xs ≤ i → position_from p i (drop i xs) ≡ position p xs → None ≡ position p xs
  is_nowhere i le so_far = sym (none_left i (drop i xs) (omega (arith, length-drop i xs))) ∙ so_far

-- Which datagram is next: one whose source has fewer than half the places, if one waits.
use Rattle.std.proofs.Common.{◌≡◌, ℕ, ◌<◌, ◌≤◌, zero, suc, nat_lt, Bool, true, false, cond, List, [], ◌∷◌, length, get_or, Option, Some, None, unwrap_or, sym, ap, refl, ◌∙◌, true≢false, arith}
use Rattle.std.specs.Prelude.{slice_get}
use Rattle.std.specs.List.{Contains, find, position, position_or_len}
use Rattle.std.proofs.lemmas.Bool.Decides.{Decides-ltb}
use Rattle.std.proofs.lemmas.Option.{slice_get_past, get_or_from_slice_get}
use Rattle.std.proofs.lemmas.List.Folds.{find_at}
use Rattle.std.proofs.lemmas.List.Quantifiers.{position-Some}
use Rattle.lisp_lemmas.proofs.Passing.{passes}

past : (n len : ℕ) (b : Bool) → nat_lt n len ≡ b → cond b (Some n) None ≡ None → len ≤ n
past n len true e at = absurd cc
past n len false e at = (let not_below : ¬ (n < len) = λ lt. true≢false (sym ((Decides-ltb n len).1 lt) ∙ e) in omega (arith, not_below))

nowhere : {X : Type 0} (p : X → Bool) (xs : List X) → position p xs ≡ None → find p xs ≡ None
nowhere p xs at = find_at p xs ∙ slice_get_past xs (position_or_len p xs) (past (position_or_len p xs) (length xs) (nat_lt (position_or_len p xs) (length xs)) refl at)

not_true : (b : Bool) → (b ≡ true → ⊥) → b ≡ false
not_true true never = absurd (never refl)
not_true false never = refl

module _ {X : Type 0} (p : X → Bool) (xs : List X) where
  -- where the element at the place that is found doesn't pass, none does
  by_place : (o : Option ℕ) → position p xs ≡ o → (x y : X) → slice_get xs (unwrap_or o 0) ≡ Some x → p x ≡ false → Contains xs y → p y ≡ false
  by_place None at x y is fails (k, within, here) =
      not_true (p y) (λ yes. passes p xs k y within (ap p here ∙ yes) (nowhere p xs at))
  by_place (Some i) at x y is fails there =
      absurd (true≢false (sym ((position-Some p xs i x at).1) ∙ ap p (get_or_from_slice_get xs i x x is) ∙ fails))

  pub none_passes : (x y : X) → slice_get xs (unwrap_or (position p xs) 0) ≡ Some x → p x ≡ false → Contains xs y → p y ≡ false
  none_passes = by_place (position p xs) refl

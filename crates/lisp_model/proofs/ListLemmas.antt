-- What a list with one more element in front has; and what options, results and sums are.
use Rattle.std.proofs.Common.{◌≡◌, zero, suc, List, [], ◌∷◌, Option, Some, Ok, Err, refl, sym, inl, inr, arith}
use Rattle.std.specs.Prelude.{◌⊎◌, Result}
use Rattle.std.specs.List.{Contains}

-- what follows from each of two facts
pub cases : {A B C : Type 0} → A ⊎ B → (A → C) → (B → C) → C
cases (inl a) f g = f a
cases (inr b) f g = g b

pub some_same : {X : Type 0} (x y : X) → ◌≡◌ {A = Option X} (Some x) (Some y) → x ≡ y
some_same x y e = cc

pub err_clash : {X F : Type 0} {fault : F} {x : X} → ◌≡◌ {A = Result X F} (Err fault) (Ok x) → ⊥
err_clash e = absurd cc

module _ {X : Type 0} where
  pub at_head : (x : X) (xs : List X) → Contains (x ∷ xs) x
  at_head x xs = (0, omega arith, refl)

  pub in_tail : (x : X) (xs : List X) (v : X) → Contains xs v → Contains (x ∷ xs) v
  in_tail x xs v (k, lt, is) = (suc k, omega arith, is)

  pub head_or_tail : (x : X) (xs : List X) (v : X) → Contains (x ∷ xs) v → (v ≡ x) ⊎ Contains xs v
  head_or_tail x xs v (zero, lt, is) = inl (sym is)
  head_or_tail x xs v (suc k, lt, is) = inr (k, omega arith, is)

  pub only : (x v : X) → Contains (x ∷ []) v → v ≡ x
  only x v (zero, lt, is) = sym is
  only x v (suc k, lt, is) = absurd (omega arith)

  pub in_none : (v : X) → Contains [] v → ⊥
  in_none v (k, lt, is) = absurd (omega arith)

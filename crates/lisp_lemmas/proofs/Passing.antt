-- What is found where an element passes a test.
use Rattle.std.proofs.Common.{◌≡◌, ◌<◌, ℕ, zero, suc, Bool, true, false, cond, List, [], ◌∷◌, Option, Some, None, length, get_or, arith}
use Rattle.std.specs.List.{find}

found_head : {X : Type 0} (b : Bool) (x : X) (others : Option X) → b ≡ true → ¬ (cond b (Some x) others ≡ None)
found_head true x others e none = let clash : Some x ≡ None = none in cc
found_head false x others e none = let clash : false ≡ true = e in cc

later : {X : Type 0} (p : X → Bool) (x : X) (xs : List X) (b : Bool) → ¬ (find p xs ≡ None) → ¬ (cond b (Some x) (find p xs) ≡ None)
later p x xs true never none = let clash : Some x ≡ None = none in cc
later p x xs false never none = never none

-- where an element passes, one is found
pub passes : {X : Type 0} (p : X → Bool) (xs : List X) (i : ℕ) (d : X) → i < length xs → p (get_or xs i d) ≡ true → ¬ (find p xs ≡ None)
passes p [] i d low e = absurd (omega (arith, low))
passes p (x ∷ xs) zero d low e = found_head (p x) x (find p xs) e
passes p (x ∷ xs) (suc i) d low e = later p x xs (p x) (passes p xs i d (omega (arith, low)) e)

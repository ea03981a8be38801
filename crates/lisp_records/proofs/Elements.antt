-- Elements of lists, and which one a look-up finds.
use Rattle.std.proofs.Common.{◌≡◌, zero, suc, Bool, true, false, ◌⊎◌, inl, inr, List, [], ◌∷◌, reverse, Some, refl, sym, ap, subst, ◌∙◌, arith}
use Rattle.std.specs.List.{find, position_or_len, slice_get, Contains}
use Rattle.std.proofs.lemmas.List.{reverse-reverse}
use Rattle.std.proofs.lemmas.List.Elements.{Contains-append_right}
use Rattle.std.proofs.lemmas.List.Folds.{find_at}
use Rattle.std.proofs.lemmas.List.Sorted.{Contains-permutation, IsPermutation-reverse}
use Rattle.std.proofs.lemmas.List.Sums.{passes_at_first}
use Rattle.std.proofs.lemmas.Option.{get_or_from_slice_get, slice_get_within}

pub none_in : {X P : Type 0} (x : X) → Contains [] x → P
none_in x (k, lt, is) = absurd (omega (arith, lt))

pub first_or_later : {X : Type 0} (x y : X) (ys : List X) → Contains (y ∷ ys) x → (y ≡ x) ⊎ Contains ys x
first_or_later x y ys (zero, lt, at) = inl at
first_or_later x y ys (suc k, lt, at) = inr (k, omega (arith, lt), at)

pub first_in : {X : Type 0} (x : X) (xs : List X) → Contains (x ∷ xs) x
first_in x xs = (0, omega arith, refl)

pub later_in : {X : Type 0} (x y : X) (ys : List X) → Contains ys x → Contains (y ∷ ys) x
later_in x y ys later = Contains-append_right (y ∷ []) ys x later

pub in_reversed : {X : Type 0} (xs : List X) (x : X) → Contains xs x → Contains (reverse xs) x
in_reversed xs x at = Contains-permutation xs (reverse xs) x (IsPermutation-reverse xs) at

pub from_reversed : {X : Type 0} (xs : List X) (x : X) → Contains (reverse xs) x → Contains xs x
from_reversed {X} xs x at = subst (λ (ys : List X). Contains ys x) (reverse-reverse xs) (in_reversed (reverse xs) x at)

-- what is found is there, and passes the test
pub found : {X : Type 0} (test : X → Bool) (xs : List X) (x : X) → find test xs ≡ Some x → Contains xs x × (test x ≡ true)
found test xs x is =
    let at : slice_get xs (position_or_len test xs) ≡ Some x = sym (find_at test xs) ∙ is in
    let lt = slice_get_within xs (position_or_len test xs) x at in
    let here = get_or_from_slice_get xs (position_or_len test xs) x x at in
    ((position_or_len test xs, lt, here), ap test (sym here) ∙ passes_at_first test xs x lt)

-- where an element passes the test, one is found
pub finds : {X : Type 0} (test : X → Bool) (xs : List X) (x : X) → Contains xs x → test x ≡ true → (y : X) × (find test xs ≡ Some y)
finds test [] x at passes = absurd (none_in x at)
finds {X} test (y ∷ ys) x at passes = by (test y) refl (first_or_later x y ys at) (λ later. finds test ys x later passes)
  where
    by : (b : Bool) → test y ≡ b → (y ≡ x) ⊎ Contains ys x → (Contains ys x → (z : X) × (find test ys ≡ Some z)) → (z : X) × (find test (y ∷ ys) ≡ Some z)
    by true e place rest = (y, rw e refl)
    by false e (inl is) rest = absurd (let clash : false ≡ true = sym e ∙ ap test is ∙ passes in cc)
    by false e (inr later) rest = (let f = rest later in (f.0, rw e f.1))

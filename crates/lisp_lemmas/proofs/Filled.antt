-- Lists whose empty elements are left out.
use Rattle.std.proofs.Common.{◌≡◌, ◌≢◌, ℕ, zero, suc, ◌<◌, true, false, List, [], ◌∷◌, ◌++◌, length, get_or, map, Bor, refl, sym, ap, ◌∙◌, nat_lt, arith}
use Rattle.std.proofs.lemmas.Grind.{common_steps}
use Rattle.std.specs.Prelude.{◌==◌}
use Rattle.std.specs.List.{filter}
use Rattle.std.proofs.lemmas.List.{append-nil, map-append}
use Rattle.std.proofs.lemmas.List.Elements.{filter-append}

-- those that aren't empty
abbrev pub filled : List (List ℕ) → List (List ℕ)
filled xs = filter (λ x. nat_lt 0 (length x)) xs

-- behind others, one more
one_more : (xs : List (Bor (List ℕ))) (x : Bor (List ℕ)) → filled (map (λ w. w.now) (xs ++ x ∷ [])) ≡ filled (map (λ w. w.now) xs) ++ filled (x.now ∷ [])
one_more xs x = ap filled (map-append (λ (w : Bor (List ℕ)). w.now) xs (x ∷ [])) ∙ filter-append (λ y. nat_lt 0 (length y)) (map (λ w. w.now) xs) (x.now ∷ [])

empty_alone : (x : List ℕ) → true ≡ (length x == 0) → filled (x ∷ []) ≡ []
empty_alone [] is = refl
empty_alone (b ∷ x) is = grind (arith, common_steps)

filled_alone : (x : List ℕ) → false ≡ (length x == 0) → filled (x ∷ []) ≡ x ∷ []
filled_alone [] is = grind (arith, common_steps)
filled_alone (b ∷ x) is = grind (arith, common_steps)

-- an empty one is left out
pub left_out : (xs : List (Bor (List ℕ))) (x : Bor (List ℕ)) → true ≡ (length x.now == 0) → filled (map (λ w. w.now) xs) ≡ filled (map (λ w. w.now) (xs ++ x ∷ []))
left_out xs x is = sym (one_more xs x ∙ ap (λ (t : List (List ℕ)). filled (map (λ w. w.now) xs) ++ t) (empty_alone x.now is) ∙ append-nil _)

-- any other is taken
pub taken : (xs : List (Bor (List ℕ))) (x : Bor (List ℕ)) → false ≡ (length x.now == 0) → filled (map (λ w. w.now) xs) ++ x.now ∷ [] ≡ filled (map (λ w. w.now) (xs ++ x ∷ []))
taken xs x is = sym (one_more xs x ∙ ap (λ (t : List (List ℕ)). filled (map (λ w. w.now) xs) ++ t) (filled_alone x.now is))

-- of two lists, none has an element where both together have none
no_last : (xs ys : List (List ℕ)) → xs ++ ys ≡ [] → ys ≡ []
no_last [] ys none = none
no_last (x ∷ xs) ys none = absurd cc

-- where one isn't empty, not all are left out
pub some_filled : (xs : List (List ℕ)) (i : ℕ) (x : List ℕ) → i < length xs → x ≡ get_or xs i x → false ≡ (length x == 0) → filled xs ≢ []
some_filled [] i x inside is full none = absurd (omega (arith, inside))
some_filled (y ∷ xs) zero x inside is full none =
    let first : filled (y ∷ []) ≡ y ∷ [] = filled_alone y (rw is at full) in
    let all : filled (y ∷ []) ++ filled xs ≡ [] = sym (filter-append (λ z. nat_lt 0 (length z)) (y ∷ []) xs) ∙ none in
    let some : y ∷ filled xs ≡ [] = rw first at all in
    absurd cc
some_filled (y ∷ xs) (suc i) x inside is full none =
    some_filled xs i x (omega (arith, inside)) is full (no_last (filled (y ∷ [])) (filled xs) (sym (filter-append (λ z. nat_lt 0 (length z)) (y ∷ []) xs) ∙ none))

-- Reading locators one after the other, as a loop does.
use Rattle.std.proofs.Common.{◌≡◌, ℕ, ◌+◌, ◌<◌, ◌≤◌, List, [], ◌∷◌, ◌++◌, length, get_or, drop, Option, Some, None, Bor, refl, sym, ap, ◌∙◌, add-one, append_assoc, drop-cons}
use Rattle.std.proofs.lemmas.List.{append-nil, drop_all}
use Rattle.lisp_records.specs.declared.locator.Locator.{Locator}
use Rattle.lisp_texts.specs.Reading.{◌>>=◌, texts, locator_of, locators_of}

-- what was read before, and what is still read
abbrev pub with_front : List Locator → Option (List Locator) → Option (List Locator)
with_front front read = read >>= λ others. Some (front ++ others)

regrouped : (front : List Locator) (l : Locator) (read : Option (List Locator)) → with_front front (read >>= λ others. Some (l ∷ others)) ≡ with_front (front ++ l ∷ []) read
regrouped front l (Some others) = ap (λ (t : List Locator). Some t) (sym (append_assoc front (l ∷ []) others))
regrouped front l None = refl

texts_step : (pieces : List (Bor (List ℕ))) (i : ℕ) (d : Bor (List ℕ)) → i < length pieces → texts (drop i pieces) ≡ (get_or pieces i d).now ∷ texts (drop (i + 1) pieces)
texts_step pieces i d lt =
    let step : drop i pieces ≡ get_or pieces i d ∷ drop (i + 1) pieces = rw add-one (drop-cons pieces i d lt) in
    ap texts step

-- one piece is no locator
pub no_locator : (front : List Locator) (pieces : List (Bor (List ℕ))) (i : ℕ) (d : Bor (List ℕ)) (total : Option (List Locator)) → i < length pieces → None ≡ locator_of (get_or pieces i d).now
    → with_front front (locators_of (texts (drop i pieces))) ≡ total → None ≡ total
unfolding locators_of
no_locator front pieces i d total lt none so_far =
    let one : with_front front (locators_of (texts (drop i pieces))) ≡ None = rw (texts_step pieces i d lt, ← none) refl in
    sym one ∙ so_far

-- one more locator is read
pub goes_on : (front : List Locator) (pieces : List (Bor (List ℕ))) (i : ℕ) (d : Bor (List ℕ)) (l : Locator) (total : Option (List Locator)) → i < length pieces → Some l ≡ locator_of (get_or pieces i d).now
    → with_front front (locators_of (texts (drop i pieces))) ≡ total → with_front (front ++ l ∷ []) (locators_of (texts (drop (i + 1) pieces))) ≡ total
unfolding locators_of
goes_on front pieces i d l total lt read so_far =
    let one : with_front front (locators_of (texts (drop i pieces))) ≡ with_front (front ++ l ∷ []) (locators_of (texts (drop (i + 1) pieces))) =
    rw (texts_step pieces i d lt, ← read) (regrouped front l (locators_of (texts (drop (i + 1) pieces)))) in
    sym one ∙ so_far

-- all locators are read
pub is_done : (front : List Locator) (pieces : List (Bor (List ℕ))) (i : ℕ) (total : Option (List Locator)) → length pieces ≤ i
    → with_front front (locators_of (texts (drop i pieces))) ≡ total → Some front ≡ total
unfolding locators_of
is_done front pieces i total le so_far =
    let none : drop i pieces ≡ [] = drop_all i pieces le in
    let one : with_front front (locators_of (texts (drop i pieces))) ≡ Some front = rw none (ap (λ (t : List Locator). Some t) (append-nil front)) in
    sym one ∙ so_far

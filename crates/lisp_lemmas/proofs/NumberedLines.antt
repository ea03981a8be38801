-- Lines with their numbers, read one after the other, as a loop over `lines().enumerate()` does.
use Rattle.std.proofs.Common.{◌≡◌, ℕ, ◌+◌, ◌<◌, List, [], ◌∷◌, ◌++◌, length, get_or, map, take, drop, Bor, refl, sym, ap, ◌∙◌, arith, add-one, drop-cons}
use Rattle.std.specs.List.{enumerate_from}
use Rattle.std.proofs.lemmas.List.{take-map, take-append-drop}
use Rattle.std.proofs.lemmas.List.FromFn.{length-enumerate_from, get_or-enumerate_from}

-- a numbered line as a value
abbrev pub shown : ℕ × Bor (List ℕ) → ℕ × List ℕ
shown x = (x.0, x.1.now)

-- the texts of numbered lines
abbrev pub texts : List (ℕ × Bor (List ℕ)) → List (List ℕ)
texts xs = map (λ x. x.1.now) xs

-- the texts of numbered lines, by their values
texts_shown : (xs : List (ℕ × Bor (List ℕ))) → texts xs ≡ map (λ p. p.1) (map shown xs)
texts_shown [] = refl
texts_shown (x ∷ xs) = ap (λ (t : List (List ℕ)). x.1.now ∷ t) (texts_shown xs)

-- lines without the numbers that they were given
unnumbered : (n : ℕ) (lines : List (List ℕ)) → map (λ p. p.1) (enumerate_from n lines) ≡ lines
unnumbered n [] = refl
unnumbered n (line ∷ lines) = ap (λ (t : List (List ℕ)). line ∷ t) (unnumbered (n + 1) lines)

-- all lines were yielded
pub all_yielded : (lines : List (List ℕ)) (xs : List (ℕ × Bor (List ℕ))) → map shown xs ≡ enumerate_from 0 lines → texts xs ≡ lines
all_yielded lines xs all = texts_shown xs ∙ ap (λ (t : List (ℕ × List ℕ)). map (λ p. p.1) t) all ∙ unnumbered 0 lines

-- where a line stands, and what stands around it
pub record IsNext (lines : List (List ℕ)) (xs : List (ℕ × Bor (List ℕ))) (x : ℕ × Bor (List ℕ)) : Type 0 where
  pub number : x.0 ≡ length xs
  pub parts : lines ≡ texts xs ++ x.1.now ∷ drop (length xs + 1) lines

-- the line that an iterator over numbered lines yields next
pub next_line : (lines : List (List ℕ)) (xs : List (ℕ × Bor (List ℕ))) (x : ℕ × Bor (List ℕ)) → map shown xs ≡ take (length xs) (enumerate_from 0 lines)
    → (length xs < length (enumerate_from 0 lines)) × (shown x ≡ get_or (enumerate_from 0 lines) (length xs) (shown x)) → IsNext lines xs x
next_line lines xs x so_far turn =
    let k : ℕ = length xs in
    let inside : k < length lines = rw (length-enumerate_from 0 lines) at turn.0 in
    let here : shown x ≡ (0 + k, get_or lines k x.1.now) = turn.1 ∙ get_or-enumerate_from 0 lines k (shown x) inside in
    let line : x.1.now ≡ get_or lines k x.1.now = ap (λ (p : ℕ × List ℕ). p.1) here in
    let number : x.0 ≡ 0 + k = ap (λ (p : ℕ × List ℕ). p.0) here in
    let front : texts xs ≡ take k lines =
    texts_shown xs ∙ ap (λ (t : List (ℕ × List ℕ)). map (λ p. p.1) t) so_far ∙ sym (take-map (λ p. p.1) k (enumerate_from 0 lines)) ∙ ap (λ (t : List (List ℕ)). take k t) (unnumbered 0 lines) in
    let behind : drop k lines ≡ get_or lines k x.1.now ∷ drop (k + 1) lines = rw add-one (drop-cons lines k x.1.now inside) in
    let whole : lines ≡ texts xs ++ x.1.now ∷ drop (k + 1) lines =
    sym (take-append-drop k lines) ∙ ap (λ (t : List (List ℕ)). t ++ drop k lines) (sym front) ∙ ap (λ (t : List (List ℕ)). texts xs ++ t) (behind ∙ ap (λ (l : List ℕ). l ∷ drop (k + 1) lines) (sym line)) in
    record { number = omega (arith, number); parts = whole }

-- Cutting a text at the first mark, and which texts hold no mark.
use Rattle.std.proofs.Common.{◌≡◌, ℕ, ◌+◌, ◌<◌, ◌≤◌, ◌^◌, true, false, eqb, ltb, List, [], ◌∷◌, ◌++◌, length, get_or, take, drop, position, Some, None, refl, sym, ap, ◌∙◌, add-one, drop-cons, arith, length-append}
use Rattle.std.specs.Char.{digit_value}
use Rattle.std.specs.Fmt.{decimal}
use Rattle.std.specs.List.{AllByRecursion, position_or_len, join_with_byte}
use Rattle.std.specs.Str.Parse.{AllDigits}
use Rattle.std.proofs.lemmas.Bool.{lt-ltb, le-ltb, eq-eqb, ne_eqb, eqb-true}
use Rattle.std.proofs.lemmas.Fmt.{decimal_is_IsNumeral}
use Rattle.std.proofs.lemmas.List.{take_at, drop_at, drop-drop, take-append-drop}
use Rattle.std.proofs.lemmas.List.Quantifiers.{position-Some}
use Rattle.std.proofs.lemmas.Option.{same_Some}
use Rattle.lisp_texts.specs.Reading.{cut, quarters_of}
use Rattle.lisp_texts.proofs.Options.{bind_some, option_map-Some}

-- no byte of the text is the mark
abbrev pub IsFree : ℕ → List ℕ → Type 0
IsFree mark text = AllByRecursion (λ c. eqb c mark ≡ false) text

position-free : (mark : ℕ) (front : List ℕ) → IsFree mark front → position_or_len (λ c. eqb c mark) front ≡ length front
position-free mark [] free = refl
position-free mark (c ∷ front) free = rw free.0 (omega (arith, position-free mark front free.1))

position-at : (mark : ℕ) (front behind : List ℕ) → IsFree mark front → position_or_len (λ c. eqb c mark) (front ++ mark ∷ behind) ≡ length front
position-at mark [] behind free = rw (eq-eqb mark mark refl) refl
position-at mark (c ∷ front) behind free = rw free.0 (omega (arith, position-at mark front behind free.1))

-- a text with no mark is not cut
pub cut-free : (mark : ℕ) (text : List ℕ) → IsFree mark text → cut mark text ≡ None
unfolding cut
cut-free mark text free = rw (position-free mark text free, le-ltb (length text) (length text) (omega arith)) refl

-- a text is cut at its first mark
pub cut-at : (mark : ℕ) (front behind : List ℕ) → IsFree mark front → cut mark (front ++ mark ∷ behind) ≡ Some (front, behind)
unfolding cut
cut-at mark front behind free =
    let within : ltb (length front) (length (front ++ mark ∷ behind)) ≡ true = lt-ltb _ _ (omega (arith, length-append front (mark ∷ behind))) in
    let before : take (length front) (front ++ mark ∷ behind) ≡ front = take_at front (mark ∷ behind) (length front) refl in
    let after : drop (length front + 1) (front ++ mark ∷ behind) ≡ behind = sym (drop-drop 1 (length front) (front ++ mark ∷ behind)) ∙ ap (drop 1) (drop_at front (mark ∷ behind) (length front) refl) in
    rw (position-at mark front behind free, within, before, after) refl

-- the parts of a text that was cut
pub cut_parts : (mark : ℕ) (text : List ℕ) (p : List ℕ × List ℕ) → cut mark text ≡ Some p → text ≡ p.0 ++ mark ∷ p.1
unfolding cut
cut_parts mark text p e =
    let found = option_map-Some (λ i. (take i text, drop (i + 1) text)) (position (λ c. eqb c mark) text) p e in
    let i : ℕ = found.0 in
    let at = position-Some (λ c. eqb c mark) text i 0 found.1 in
    let here : get_or text i 0 ≡ mark = eqb-true _ _ at.1 in
    let behind : drop i text ≡ get_or text i 0 ∷ drop (i + 1) text = rw add-one (drop-cons text i 0 at.0) in
    let whole : text ≡ take i text ++ mark ∷ drop (i + 1) text = sym (take-append-drop i text) ∙ ap (λ (t : List ℕ). take i text ++ t) (rw here at behind) in
    whole ∙ ap (λ (q : List ℕ × List ℕ). q.0 ++ mark ∷ q.1) found.2

-- ---- four parts

pub quarters-free : (mark : ℕ) (text : List ℕ) → IsFree mark text → quarters_of mark text ≡ None
unfolding quarters_of
quarters-free mark text free = rw (cut-free mark text free) refl

pub quarters-at : (mark : ℕ) (p q r s : List ℕ) → IsFree mark p → IsFree mark q → IsFree mark r → quarters_of mark (p ++ mark ∷ (q ++ mark ∷ (r ++ mark ∷ s))) ≡ Some (p, q, r, s)
unfolding quarters_of
quarters-at mark p q r s p_free q_free r_free = rw (cut-at mark p (q ++ mark ∷ (r ++ mark ∷ s)) p_free, cut-at mark q (r ++ mark ∷ s) q_free, cut-at mark r s r_free) refl

pub quarters_parts : (mark : ℕ) (text : List ℕ) (q : List ℕ × List ℕ × List ℕ × List ℕ) → quarters_of mark text ≡ Some q → text ≡ q.0 ++ mark ∷ (q.1 ++ mark ∷ (q.2 ++ mark ∷ q.3))
unfolding quarters_of
quarters_parts mark text q e =
    let f = bind_some (cut mark text) _ q e in
    let s = bind_some (cut mark f.0.1) _ q f.2 in
    let t = bind_some (cut mark s.0.1) _ q s.2 in
    let whole = cut_parts mark text f.0 f.1 ∙ ap (λ (behind : List ℕ). f.0.0 ++ mark ∷ behind) (cut_parts mark f.0.1 s.0 s.1 ∙ ap (λ (behind : List ℕ). s.0.0 ++ mark ∷ behind) (cut_parts mark s.0.1 t.0 t.1)) in
    whole ∙ ap (λ (q : List ℕ × List ℕ × List ℕ × List ℕ). q.0 ++ mark ∷ (q.1 ++ mark ∷ (q.2 ++ mark ∷ q.3))) (same_Some _ q t.2)

-- ---- texts with no mark

pub free-append : (mark : ℕ) (xs ys : List ℕ) → IsFree mark xs → IsFree mark ys → IsFree mark (xs ++ ys)
free-append mark [] ys xs_free ys_free = ys_free
free-append mark (x ∷ xs) ys xs_free ys_free = (xs_free.0, free-append mark xs ys xs_free.1 ys_free)

-- parts with no mark, joined by another one
pub free-join : (mark between : ℕ) (parts : List (List ℕ)) → eqb between mark ≡ false → AllByRecursion (IsFree mark) parts → IsFree mark (join_with_byte between parts)
free-join mark between [] other free = tt
free-join mark between (x ∷ []) other free = free.0
free-join mark between (x ∷ y ∷ parts) other free = free-append mark x _ free.0 (other, free-join mark between (y ∷ parts) other free.1)

-- digits hold no mark that is none
pub free-digits : (mark radix : ℕ) (ds : List ℕ) → radix ≤ digit_value mark → AllDigits radix ds → IsFree mark ds
free-digits mark radix [] none all = tt
free-digits mark radix (c ∷ cs) none all = (ne_eqb c mark (λ same. let below : digit_value mark < radix = rw same at all.0 in omega arith), free-digits mark radix cs none all.1)

pub free-decimal : (mark n : ℕ) → 10 ≤ digit_value mark → n < 2 ^ 64 → IsFree mark (decimal n)
free-decimal mark n none small = free-digits mark 10 (decimal n) none (decimal_is_IsNumeral n small).0.1

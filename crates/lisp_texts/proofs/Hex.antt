-- Hexadecimal digits, one after the other.
use Rattle.std.proofs.Common.{◌≡◌, ℕ, zero, suc, ◌^◌, ◌<◌, ◌≤◌, true, false, ◌&&◌, eqb, ltb, leb, List, [], ◌∷◌, length, take, Some, refl, sym, ap, ◌∙◌, arith}
use Rattle.std.specs.Char.{digit_value}
use Rattle.std.specs.List.{list_all}
use Rattle.std.specs.Str.Parse.{AllDigits, digits_value}
use Rattle.std.proofs.lemmas.Bool.{lt-ltb, le-leb, ltb-true, leb-true, eqb-false, and_parts}
use Rattle.std.proofs.lemmas.Option.{cond_some}
use Rattle.std.proofs.lemmas.List.{length-take, take_all}
use Rattle.std.proofs.lemmas.Int.Digits.{digits_value-lt, digits_value_more, digits_more}
use Rattle.lisp_texts.specs.Text.{IsGroup}
use Rattle.lisp_texts.specs.Reading.{group_of}

power_small : (k : ℕ) → k < 4 → 16 ^ k ≤ 4096
power_small zero lt = omega arith
power_small (suc zero) lt = omega arith
power_small (suc (suc zero)) lt = omega arith
power_small (suc (suc (suc zero))) lt = omega arith
power_small (suc (suc (suc (suc k)))) lt = absurd (omega arith)

-- up to three digits leave room for one more in 16 bits
pub value_small : (ds : List ℕ) (i : ℕ) → i < 4 → AllDigits 16 (take i ds) → digits_value 16 (take i ds) < 4096
value_small ds i lt all =
    let short : length (take i ds) < 4 = omega (arith, length-take i ds) in
    omega (arith, digits_value-lt 16 (take i ds) all, power_small (length (take i ds)) short)

-- digits pass the test for them
pub list_all-digits : (ds : List ℕ) → AllDigits 16 ds → list_all (λ c. ltb (digit_value c) 16) ds ≡ true
list_all-digits [] all = refl
list_all-digits (c ∷ cs) all = rw (lt-ltb _ _ all.0) (list_all-digits cs all.1)

pub ruleset digits = (value_small, list_all-digits, digits_value_more, digits_more)

-- and only digits do
digits-list_all : (ds : List ℕ) → list_all (λ c. ltb (digit_value c) 16) ds ≡ true → AllDigits 16 ds
digits-list_all [] all = tt
digits-list_all (c ∷ cs) all = let parts = and_parts (ltb (digit_value c) 16) _ all in (ltb-true _ _ parts.0, digits-list_all cs parts.1)

-- a group is read
pub group_again : (ds : List ℕ) → IsGroup ds → group_of ds ≡ Some (digits_value 16 ds)
unfolding group_of
group_again ds group = rw (lt-ltb 0 (length ds) group.0.0, le-leb (length ds) 4 group.1, list_all-digits ds group.0.1) refl

-- what is read is a group
pub group_takes : (ds : List ℕ) (v : ℕ) → group_of ds ≡ Some v → IsGroup ds × (v ≡ digits_value 16 ds)
unfolding group_of
group_takes ds v e =
    let some = cond_some _ (digits_value 16 ds) v e in
    let tests = and_parts (ltb 0 (length ds) && leb (length ds) 4) (list_all (λ c. ltb (digit_value c) 16) ds) some.0 in
    let sizes = and_parts (ltb 0 (length ds)) (leb (length ds) 4) tests.0 in
    (((ltb-true _ _ sizes.0, digits-list_all ds tests.1), leb-true _ _ sizes.1), sym some.1)

-- all digits are read
pub is_done : (ds : List ℕ) (i v : ℕ) → false ≡ eqb (length ds) 0 → length ds ≤ 4 → length ds ≤ i → AllDigits 16 (take i ds) → v ≡ digits_value 16 (take i ds) → Some v ≡ group_of ds
unfolding group_of
is_done ds i v some few le all value =
    let whole = take_all i ds le in
    let digits = rw whole at all in
    let number : v ≡ digits_value 16 ds = value ∙ ap (digits_value 16) whole in
    let long : 0 < length ds = omega (arith, eqb-false (length ds) 0 (sym some)) in
    ap (λ (n : ℕ). Some n) number ∙ sym (group_again ds ((long, digits), few))

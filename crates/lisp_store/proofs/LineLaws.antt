-- The text of a nonce is twenty digits whose value it is, and no other text is.
use Rattle.std.proofs.Common.{◌≡◌, ◌↔◌, ℕ, zero, suc, ◌+◌, ◌*◌, ◌/◌, ◌%◌, ◌^◌, ◌<◌, ◌≤◌, true, List, [], ◌∷◌, ◌++◌, length, take, get_or, codes, subst, refl, sym, ap, ◌∙◌, arith}
use Rattle.std.specs.Char.{digit_value, is_ascii_digit}
use Rattle.std.specs.Int.{IsInRange}
use Rattle.std.specs.List.{list_all}
use Rattle.std.specs.Str.Parse.{AllDigits, digits_value}
use Rattle.std.proofs.lemmas.Bool.{and_parts, and_from, leb-true, le-leb}
use Rattle.std.proofs.lemmas.Int.Digits.{digits_value_more}
use Rattle.std.proofs.lemmas.List.{take_all, take_more}
use Rattle.std.proofs.lemmas.Str.{digit_value_digit}
use Rattle.std.proofs.lemmas.Str.Parse.{IsDigitsTest, IsNumeralModel, numerals_by_value, digit_at}
use Rattle.lisp_store.specs.NonceText.{last_digits, nonce_text}
use Rattle.lisp_store.specs.NonceLine.{IsNonceLine}
use Rattle.lisp_store.proofs.Digits.{twenty_digits}

-- `list_all is_ascii_digit` holds of the texts of decimal digits
tells : IsDigitsTest (λ ds. list_all is_ascii_digit ds ≡ true)
tells = record {
  empty = refl;
  parts = λ c cs all. (let both = and_parts (is_ascii_digit c) (list_all is_ascii_digit cs) all in let ends = and_parts _ _ both.0 in ((leb-true 48 c ends.0, leb-true c 57 ends.1), both.1));
  more = λ c cs within all. and_from (is_ascii_digit c) (list_all is_ascii_digit cs) (and_from _ _ (le-leb 48 c within.0) (le-leb c 57 within.1)) all;
}

numerals : IsNumeralModel (λ ds. list_all is_ascii_digit ds ≡ true) (digits_value 10)
numerals = numerals_by_value (λ ds. list_all is_ascii_digit ds ≡ true) tells

-- one digit more
one_more : (count front c : ℕ) → IsInRange 48 57 c → last_digits count front ++ c ∷ [] ≡ last_digits (suc count) (front * 10 + digit_value c)
unfolding last_digits
one_more count front c within =
    let digit = digit_value_digit c within in
    let rest : (front * 10 + digit_value c) / 10 ≡ front = omega (arith, digit, within.1) in
    let last : 48 + (front * 10 + digit_value c) % 10 ≡ c = omega (arith, digit, within.1) in
    rw (rest, last) refl

-- digits are the last digits of their value
value_digits : (ds : List ℕ) → AllDigits 10 ds → (count : ℕ) → count ≤ length ds → take count ds ≡ last_digits count (digits_value 10 (take count ds))
unfolding last_digits
value_digits ds all zero within = refl
value_digits ds all (suc count) within =
    let c = get_or ds count 0 in
    let front = take count ds in
    let next : suc count ≡ count + 1 = omega arith in
    let more : take (suc count) ds ≡ front ++ c ∷ [] = ap (λ (n : ℕ). take n ds) next ∙ take_more ds count 0 (omega (arith, within)) in
    let value : digits_value 10 (take (suc count) ds) ≡ digits_value 10 front * 10 + digit_value c = ap (λ (n : ℕ). digits_value 10 (take n ds)) next ∙ digits_value_more 10 ds count (omega (arith, within)) in
    more
    ∙ ap (λ (l : List ℕ). l ++ c ∷ []) (value_digits ds all count (omega (arith, within)))
    ∙ one_more count (digits_value 10 front) c (digit_at ds count all (omega (arith, within)))
    ∙ ap (last_digits (suc count)) (sym value)

-- the text of a nonce is a line of it
line_of : (nonce : ℕ) → nonce < 2 ^ 64 → IsNonceLine (nonce_text nonce) nonce
line_of nonce lt =
    let told = twenty_digits nonce lt in
    record { digits = last_digits 20 nonce; line = refl; twenty = told.0; decimal = numerals.from (last_digits 20 nonce) told.1; value = told.2 }

-- a line of a nonce is its text
text_of : (text : List ℕ) (nonce : ℕ) → IsNonceLine text nonce → text ≡ nonce_text nonce
text_of text nonce is =
    let whole : take 20 is.digits ≡ is.digits = take_all 20 is.digits (omega (arith, is.twenty)) in
    let digits : is.digits ≡ last_digits 20 nonce =
    sym whole ∙ value_digits is.digits (numerals.to is.digits is.decimal) 20 (omega (arith, is.twenty)) ∙ ap (λ (l : List ℕ). last_digits 20 (digits_value 10 l)) whole ∙ ap (last_digits 20) is.value in
    is.line ∙ ap (λ (l : List ℕ). codes "nonce " ++ l ++ 10 ∷ []) digits

pub nonce_line : (text : List ℕ) (nonce : ℕ) → nonce < 2 ^ 64 → (text ≡ nonce_text nonce) ↔ IsNonceLine text nonce
nonce_line text nonce lt = (λ is. subst (λ (t : List ℕ). IsNonceLine t nonce) (sym is) (line_of nonce lt), text_of text nonce)

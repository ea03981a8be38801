-- What `parse` gives of a decimal number.
use Rattle.std.proofs.Common.{◌≡◌, ℕ, ◌≤◌, ◌^◌, true, List, length, Result, Ok, Err, refl, rules, inl, inr}
use Rattle.std.specs.Char.{is_ascii_digit}
use Rattle.std.specs.List.{list_all}
use Rattle.std.specs.Result.{result_ok}
use Rattle.std.specs.Str.Parse.{digits_value, ParsesUnsigned}
use Rattle.std.proofs.lemmas.Bool.{le-leb, lt-ltb, le-ltb, cases_lt}
use Rattle.std.proofs.lemmas.Str.Parse.{IsDigitsTest, numerals_by_value, parse_digits}
use Rattle.lisp_texts.specs.Number.{is_number, number_of}

pub digits : IsDigitsTest (λ ds. list_all is_ascii_digit ds ≡ true)
digits = search rules

-- 1 to 20 digits are a number
pub is_number-digits : (text : List ℕ) → 1 ≤ length text → length text ≤ 20 → list_all is_ascii_digit text ≡ true → is_number text ≡ true
is_number-digits text some few all = rw (le-leb 1 (length text) some, le-leb (length text) 20 few, all) refl

-- what `parse` gives of them is the number where it fits
pub parsed : {E : Type 0} (text : List ℕ) (r : Result ℕ E) → ParsesUnsigned 64 10 text r → 1 ≤ length text → length text ≤ 20 → list_all is_ascii_digit text ≡ true → result_ok r ≡ number_of text
parsed {E} text (Ok x) h some few all =
    let given = parse_digits (numerals_by_value _ digits) {E = E} 64 text (Ok x) h all in
    rw (is_number-digits text some few all, lt-ltb (digits_value 10 text) (2 ^ 64) given.0.1, given.1) refl
parsed {E} text (Err e) h some few all =
    let given = parse_digits (numerals_by_value _ digits) {E = E} 64 text (Err e) h all in
    elim (cases_lt (digits_value 10 text) (2 ^ 64)) [
      | inl lt ↦ absurd (given (some, lt))
      | inr le ↦ rw (is_number-digits text some few all, le-ltb (digits_value 10 text) (2 ^ 64) le) refl
    ]

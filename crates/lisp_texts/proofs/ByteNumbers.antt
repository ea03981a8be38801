-- Numbers in decimal: what is read of their text, and what text was read.
use Rattle.std.proofs.Common.{◌≡◌, ℕ, ◌^◌, ◌<◌, inl, inr, Bool, true, false, cond, ◌&&◌, ltb, leb, List, [], ◌∷◌, length, get_or, Some, None, refl, sym, ap, ◌∙◌, true≢false, arith}
use Rattle.std.specs.Char.{is_ascii_digit}
use Rattle.std.specs.Fmt.{decimal}
use Rattle.std.specs.List.{list_all}
use Rattle.std.specs.Str.Parse.{digits_value}
use Rattle.std.proofs.lemmas.Bool.{lt-ltb, ne_eqb, eq-eqb, ltb-true, leb-true, and_parts, cases_lt}
use Rattle.std.proofs.lemmas.Fmt.{decimal_digit, decimal_nonempty, decimal-digits_value, digits_decimal, digits_value-decimal, first_decimal, length-decimal-le}
use Rattle.std.proofs.lemmas.Option.{none-some, cond_some}
use Rattle.std.proofs.lemmas.Str.Parse.{numerals_by_value}
use Rattle.lisp_texts.specs.Number.{is_number, number_of}
use Rattle.lisp_texts.specs.Reading.{is_padded, number_below, byte_of}
use Rattle.lisp_texts.proofs.NumberTexts.{below_takes, below_again}
use Rattle.lisp_texts.proofs.Numbers.{digits, is_number-digits}

-- a number in decimal is read
pub number_again : (n : ℕ) → n < 2 ^ 64 → number_of (decimal n) ≡ Some n
number_again n small =
    let value : digits_value 10 (decimal n) ≡ n = digits_value-decimal (numerals_by_value _ digits) n small in
    rw (is_number-digits (decimal n) (omega (arith, decimal_nonempty n small)) (length-decimal-le 20 n (omega arith) (omega arith) small) (digits_decimal (numerals_by_value _ digits) n small), value, lt-ltb n (2 ^ 64) small) refl

not_padded : (text : List ℕ) → 48 < get_or text 0 0 → is_padded text ≡ false
not_padded [] above = refl
not_padded (c ∷ []) above = refl
not_padded (c ∷ d ∷ text) above = ne_eqb c 48 (λ same. omega (arith, above, same))

-- a number in decimal has no leading zeros
plain_decimal : (n : ℕ) → n < 2 ^ 64 → is_padded (decimal n) ≡ false
plain_decimal n small = elim (cases_lt 0 n) [
  | inl some ↦ not_padded (decimal n) (first_decimal n some small)
  | inr none ↦ (let zero : n ≡ 0 = omega arith in rw (zero, decimal_digit 0 (omega arith)) refl)
]

-- a number below 256 is read
pub byte_again : (n : ℕ) → n < 256 → byte_of (decimal n) ≡ Some n
unfolding byte_of
byte_again n lt = rw (plain_decimal n (omega arith)) (below_again 256 (decimal n) n (number_again n (omega arith)) lt)

-- the first digit of a text without leading zeros is a zero only where it is the last
lone_zero : (text : List ℕ) → is_padded text ≡ false → get_or text 0 0 ≡ 48 → length text ≡ 1
lone_zero [] plain zero = absurd (omega (arith, zero))
lone_zero (c ∷ []) plain zero = refl
lone_zero (c ∷ d ∷ text) plain zero = absurd (true≢false (sym (eq-eqb c 48 zero) ∙ plain))

-- digits without leading zeros are those of their number
digits_again : (text : List ℕ) (n : ℕ) → is_padded text ≡ false → number_of text ≡ Some n → text ≡ decimal n
digits_again text n plain number =
    let some = cond_some (is_number text && ltb (digits_value 10 text) (2 ^ 64)) (digits_value 10 text) n number in
    let tests = and_parts (is_number text) (ltb (digits_value 10 text) (2 ^ 64)) some.0 in
    let counted = and_parts (leb 1 (length text) && leb (length text) 20) (list_all is_ascii_digit text) tests.0 in
    let lengths = and_parts (leb 1 (length text)) (leb (length text) 20) counted.0 in
    sym (decimal-digits_value (numerals_by_value _ digits) text counted.1 (omega (arith, leb-true _ _ lengths.0)) (lone_zero text plain) (ltb-true _ _ tests.1)) ∙ ap decimal some.1

below_plain : (padded : Bool) (text : List ℕ) (n : ℕ) → is_padded text ≡ padded → cond padded None (number_below 256 text) ≡ Some n → (text ≡ decimal n) × (n < 256)
below_plain true text n is e = absurd (none-some n e)
below_plain false text n is e = let below = below_takes 256 text n e in (digits_again text n is below.0, below.1)

-- what is read is a number below 256
pub byte_takes : (text : List ℕ) (n : ℕ) → byte_of text ≡ Some n → (text ≡ decimal n) × (n < 256)
unfolding byte_of
byte_takes text n e = below_plain (is_padded text) text n refl e

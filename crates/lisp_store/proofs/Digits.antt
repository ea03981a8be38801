-- The digits of a nonce: what `parse` makes of them, and where they stand in its text.
use Rattle.std.proofs.Common.{◌≡◌, ℕ, zero, suc, ◌+◌, ◌/◌, ◌%◌, ◌^◌, ◌<◌, List, [], ◌∷◌, ◌++◌, length, take, Result, Ok, subst, refl, ap, ◌∙◌, arith}
use Rattle.std.specs.Char.{digit_value}
use Rattle.std.specs.List.{slice_range}
use Rattle.std.specs.Str.{IsUtf8}
use Rattle.std.specs.Str.Parse.{AllDigits, ParsesUnsigned, digits_value}
use Rattle.std.proofs.Math.Nat.{pow-succ'}
use Rattle.std.proofs.Math.Seq.{take-append_seam}
use Rattle.std.proofs.lemmas.Int.Digits.{digits_push, digits_value_push}
use Rattle.std.proofs.lemmas.List.{length-append}
use Rattle.std.proofs.lemmas.Fmt.{IsAscii-from_digits}
use Rattle.std.proofs.lemmas.Str.{IsUtf8-from_ascii, digit_value_digit}
use Rattle.std.proofs.lemmas.Str.Parse.{numerals_by_value, parse_gives, tells_digits}
use Rattle.lisp_store.specs.NonceText.{last_digits, nonce_text}

-- one more digit
pub next : (count all number : ℕ) → count + 1 ≡ all → last_digits count (number / 10) ++ (48 + number % 10) ∷ [] ≡ last_digits all number
unfolding last_digits
next count all number is = let one_more : suc count ≡ all = omega (arith, is) in subst (λ (n : ℕ). last_digits count (number / 10) ++ (48 + number % 10) ∷ [] ≡ last_digits n number) one_more refl

length-last_digits : (count n : ℕ) → length (last_digits count n) ≡ count
unfolding last_digits
length-last_digits zero n = refl
length-last_digits (suc count) n = length-append (last_digits count (n / 10)) _ ∙ ap (λ (k : ℕ). k + 1) (length-last_digits count (n / 10)) ∙ omega arith

digit : (n : ℕ) → digit_value (48 + n % 10) ≡ n % 10
digit n = let same = digit_value_digit (48 + n % 10) (omega arith, omega arith) in omega (arith, same)

all_digits : (count n : ℕ) → AllDigits 10 (last_digits count n)
unfolding last_digits
all_digits zero n = tt
all_digits (suc count) n = digits_push 10 (last_digits count (n / 10)) (48 + n % 10) (all_digits count (n / 10)) (rw (digit n) (omega arith))

-- so many digits write each number that fits them
digits_value-last : (count n : ℕ) → n < 10 ^ count → digits_value 10 (last_digits count n) ≡ n
unfolding last_digits
digits_value-last zero n lt = omega (arith, lt)
digits_value-last (suc count) n lt = let front : digits_value 10 (last_digits count (n / 10)) ≡ n / 10 = digits_value-last count (n / 10) (omega (arith, subst (λ (k : ℕ). n < k) (pow-succ' 10 count) lt)) in digits_value_push 10 (last_digits count (n / 10)) (48 + n % 10) ∙ rw (front, digit n) (omega arith)

-- the digits of a nonce's text, and what `parse` makes of them
pub digits_of_text : (nonce : ℕ) → slice_range (nonce_text nonce) 6 26 ≡ last_digits 20 nonce
digits_of_text nonce = subst (λ (k : ℕ). take k (last_digits 20 nonce ++ 10 ∷ []) ≡ last_digits 20 nonce) (length-last_digits 20 nonce) (take-append_seam (last_digits 20 nonce) (10 ∷ []))

pub length-nonce_text : (nonce : ℕ) → length (nonce_text nonce) ≡ 27
length-nonce_text nonce = let digits = length-append (last_digits 20 nonce) (10 ∷ []) in omega (arith, digits, length-last_digits 20 nonce)

pub digits_are_text : (nonce : ℕ) → IsUtf8 (last_digits 20 nonce)
digits_are_text nonce = IsUtf8-from_ascii (last_digits 20 nonce) (IsAscii-from_digits (last_digits 20 nonce) (all_digits 20 nonce))

pub parsed : {E : Type 0} (nonce : ℕ) (text digits read : List ℕ) (r : Result ℕ E) → nonce < 2 ^ 64
    → text ≡ nonce_text nonce → digits ≡ slice_range text 6 26 → read ≡ digits → ParsesUnsigned 64 10 read r → r ≡ Ok nonce
parsed {E} nonce text digits read r lt is cut same parses =
    let value = digits_value-last 20 nonce (omega (arith, lt)) in
    let all : read ≡ last_digits 20 nonce = same ∙ cut ∙ ap (λ (t : List ℕ). slice_range t 6 26) is ∙ digits_of_text nonce in
    let answer = subst (λ (t : List ℕ). ParsesUnsigned 64 10 t r) all parses in
    parse_gives (numerals_by_value (AllDigits 10) tells_digits) {E = E} 64 (last_digits 20 nonce) r answer (all_digits 20 nonce) (omega (arith, length-last_digits 20 nonce)) (omega (arith, value, lt)) ∙ ap (λ (n : ℕ). Ok n) value

-- the digits of a nonce's text are twenty, and the nonce is their value
pub twenty_digits : (nonce : ℕ) → nonce < 2 ^ 64 → (length (last_digits 20 nonce) ≡ 20) × AllDigits 10 (last_digits 20 nonce) × (digits_value 10 (last_digits 20 nonce) ≡ nonce)
twenty_digits nonce lt = (length-last_digits 20 nonce, all_digits 20 nonce, digits_value-last 20 nonce (omega (arith, lt)))

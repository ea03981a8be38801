-- No text can be markup.
use Rattle.std.proofs.Common.{◌≡◌, ◌≢◌, ℕ, ◌+◌, ◌/◌, ◌%◌, ◌≤◌, Bool, true, false, nat_eq, nat_lt, List, [], ◌∷◌, ◌++◌, chars, refl, arith}
use Rattle.std.specs.Prelude.{codes, cond, if◌then◌else◌}
use Rattle.std.specs.List.{flat_map}
use Rattle.std.specs.Char.{encode_utf8}
use Rattle.std.proofs.lemmas.Bool.{eqb-false}
use Rattle.lisp_picture.specs.Markup.{written, escaped, is_shown, HasNoMarkup}

-- a byte that begins or ends nothing
abbrev IsHarmless : ℕ → Type 0
IsHarmless b = (b ≢ 60) × (b ≢ 62) × (b ≢ 34)

other : (b : ℕ) → nat_eq b 60 ≡ false → nat_eq b 62 ≡ false → nat_eq b 34 ≡ false → IsHarmless b
other b one two three = (eqb-false b 60 one, eqb-false b 62 two, eqb-false b 34 three)

large : (b : ℕ) → 128 ≤ b → IsHarmless b
large b high = (λ is. omega (arith, is, high), λ is. omega (arith, is, high), λ is. omega (arith, is, high))

-- a character of one byte, or more
spelt : (c : ℕ) (one two three : Bool) → IsHarmless c
    → HasNoMarkup (cond one (c ∷ []) (cond two ((192 + c / 64) ∷ (128 + c % 64) ∷ []) (cond three ((224 + c / 4096) ∷ (128 + c / 64 % 64) ∷ (128 + c % 64) ∷ []) ((240 + c / 262144) ∷ (128 + c / 4096 % 64) ∷ (128 + c / 64 % 64) ∷ (128 + c % 64) ∷ []))))
spelt c true two three harmless = (harmless, tt)
spelt c false true three harmless = (large _ (omega arith), (large _ (omega arith), tt))
spelt c false false true harmless = (large _ (omega arith), (large _ (omega arith), (large _ (omega arith), tt)))
spelt c false false false harmless = (large _ (omega arith), (large _ (omega arith), (large _ (omega arith), (large _ (omega arith), tt))))

encoded : (c : ℕ) → IsHarmless c → HasNoMarkup (encode_utf8 c)
unfolding lib.Utf8.encode
encoded c harmless = spelt c (nat_lt c 128) (nat_lt c 2048) (nat_lt c 65536) harmless

-- a character as it is written
shown : (c : ℕ) (ampersand less greater quote passes : Bool) → nat_eq c 60 ≡ less → nat_eq c 62 ≡ greater → nat_eq c 34 ≡ quote
    → HasNoMarkup (if ampersand then codes "&amp;" else if less then codes "&lt;" else if greater then codes "&gt;" else if quote then codes "&quot;" else if passes then encode_utf8 c else codes "?")
shown c true less greater quote passes one two three = (other 38 refl refl refl, (other 97 refl refl refl, (other 109 refl refl refl, (other 112 refl refl refl, (other 59 refl refl refl, tt)))))
shown c false true greater quote passes one two three = (other 38 refl refl refl, (other 108 refl refl refl, (other 116 refl refl refl, (other 59 refl refl refl, tt))))
shown c false false true quote passes one two three = (other 38 refl refl refl, (other 103 refl refl refl, (other 116 refl refl refl, (other 59 refl refl refl, tt))))
shown c false false false true passes one two three = (other 38 refl refl refl, (other 113 refl refl refl, (other 117 refl refl refl, (other 111 refl refl refl, (other 116 refl refl refl, (other 59 refl refl refl, tt))))))
shown c false false false false true one two three = encoded c (other c one two three)
shown c false false false false false one two three = (other 63 refl refl refl, tt)

of_character : (c : ℕ) → HasNoMarkup (written c)
unfolding Rattle.lisp_picture.specs.Markup.written
of_character c = shown c (nat_eq c 38) (nat_eq c 60) (nat_eq c 62) (nat_eq c 34) (is_shown c) refl refl refl

both : (xs ys : List ℕ) → HasNoMarkup xs → HasNoMarkup ys → HasNoMarkup (xs ++ ys)
both [] ys none more = more
both (x ∷ xs) ys (here, rest) more = (here, both xs ys rest more)

each : (cs : List ℕ) → HasNoMarkup (flat_map written cs)
each [] = tt
each (c ∷ cs) = both (written c) (flat_map written cs) (of_character c) (each cs)

pub no_markup : (words : List ℕ) → HasNoMarkup (escaped words)
no_markup words = each (chars words)

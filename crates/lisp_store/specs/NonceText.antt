-- The text of a nonce in a file.
use Rattle.std.specs.Prelude.{◌≡◌, ◌<◌, ◌^◌, ℕ, zero, suc, ◌+◌, ◌/◌, ◌%◌, List, [], ◌∷◌, ◌++◌, codes, Option, Some}

-- the last digits of a number, so many, in decimal
unfoldable pub last_digits : ℕ → ℕ → List ℕ
last_digits zero n = []
last_digits (suc count) n = last_digits count (n / 10) ++ (48 + n % 10) ∷ []

-- twenty digits write each number below 2^64
abbrev pub nonce_text : ℕ → List ℕ
nonce_text nonce = codes "nonce " ++ last_digits 20 nonce ++ 10 ∷ []

-- the nonce whose text it is is found
abbrev pub FindsNonce : List ℕ → Option ℕ → Type 0
FindsNonce text answer = (nonce : ℕ) → nonce < 2 ^ 64 → text ≡ nonce_text nonce → answer ≡ Some nonce

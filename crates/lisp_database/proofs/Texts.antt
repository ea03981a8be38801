-- Digits are texts, and where those of a nonce stand in its text.
use Rattle.std.proofs.Common.{◌≡◌, ℕ, zero, suc, ◌<◌, nat_lt, true, List, [], ◌∷◌, refl, sym, ap, ◌∙◌, arith}
use Rattle.std.specs.List.{list_all, slice_range, slice_index}
use Rattle.std.specs.Str.{IsUtf8}
use Rattle.std.proofs.lemmas.Bool.{and_parts, ltb-true}
use Rattle.std.proofs.lemmas.Str.{IsUtf8-from_ascii}
use Rattle.hex.specs.Hex.{encode_lower, lower_digits}
use Rattle.hex.proofs.HexLemmas.{IsAscii-encode_with}
use Rattle.lisp_store.specs.NonceText.{last_digits, nonce_text}
use Rattle.lisp_store.proofs.Digits as nonces

below : (xs : List ℕ) → list_all (λ b. nat_lt b 128) xs ≡ true → (i : ℕ) → slice_index xs i < 128
below [] all i = omega arith
below (x ∷ xs) all zero = ltb-true x 128 (and_parts (nat_lt x 128) (list_all (λ b. nat_lt b 128) xs) all).0
below (x ∷ xs) all (suc i) = below xs (and_parts (nat_lt x 128) (list_all (λ b. nat_lt b 128) xs) all).1 i

-- hexadecimal digits are a text
pub digits_are_text : (bytes : List ℕ) → IsUtf8 (encode_lower bytes)
digits_are_text bytes = IsUtf8-from_ascii (encode_lower bytes) (IsAscii-encode_with lower_digits bytes (below lower_digits refl))

-- so are those of a nonce
pub nonce_digits_are_text : (nonce : ℕ) → IsUtf8 (last_digits 20 nonce)
nonce_digits_are_text nonce = nonces.digits_are_text nonce

-- where they stand in its text
pub nonce_digits_there : (nonce : ℕ) → slice_range (nonce_text nonce) 6 26 ≡ last_digits 20 nonce
nonce_digits_there nonce = nonces.digits_of_text nonce

-- a text with these digits there, where it is that of a nonce
pub digits_there : (nonce : ℕ) (text digits : List ℕ) → slice_range text 6 26 ≡ digits → text ≡ nonce_text nonce → digits ≡ last_digits 20 nonce
digits_there nonce text digits cut is = sym cut ∙ ap (λ (t : List ℕ). slice_range t 6 26) is ∙ nonces.digits_of_text nonce

-- What the text of a nonce says: its number, in twenty decimal digits.
use Rattle.std.specs.Prelude.{◌≡◌, ◌↔◌, ◌<◌, ◌^◌, ℕ, true, List, [], ◌∷◌, ◌++◌, length, codes}
use Rattle.std.specs.Char.{is_ascii_digit}
use Rattle.std.specs.List.{list_all}
use Rattle.std.specs.Str.Parse.{digits_value}
use Rattle.lisp_store.specs.NonceText.{nonce_text}

-- the word `nonce`, a space, twenty digits whose value the number is, and a line feed
pub record IsNonceLine (text : List ℕ) (number : ℕ) : Type 0 where
  pub digits : List ℕ
  pub line : text ≡ codes "nonce " ++ digits ++ 10 ∷ []
  pub twenty : length digits ≡ 20
  pub decimal : list_all is_ascii_digit digits ≡ true
  pub value : digits_value 10 digits ≡ number

-- the text of a nonce is its line, and no other text is
abbrev pub TextsAreLines : Type 0
TextsAreLines = (text : List ℕ) (nonce : ℕ) → nonce < 2 ^ 64 → (text ≡ nonce_text nonce) ↔ IsNonceLine text nonce

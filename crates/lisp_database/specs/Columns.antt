-- A pair and a nonce as the values of a row of the table.
use Rattle.std.specs.Prelude.{◌≡◌, ◌<◌, ◌^◌, ℕ, pos, List, [], ◌∷◌, ◌++◌, Any, codes, Option, Some}
use Rattle.std.specs.Int.{w64, to_be_bytes}
use Rattle.hex.specs.Hex.{encode_lower}
use Rattle.sqlite.specs.declared.types.Value.{Value}
use Rattle.sqlite.specs.declared.types.Value.TheVariants.{Int, Text}
use Rattle.sqlite.specs.Order.{Row, column}
use Rattle.lisp_nonces.specs.declared.pair.PairKind.{PairKind}
use Rattle.lisp_nonces.specs.declared.pair.PairKind.TheVariants.{Sent, Received, Notice}
use Rattle.lisp_nonces.specs.declared.pair.Pair.{Pair}
use Rattle.lisp_store.specs.NonceText.{last_digits}
use Rattle.lisp_store.specs.declared.kept_nonce.KeptNonce.{KeptNonce}

-- which nonces, in a word
abbrev pub kind_word : PairKind → List ℕ
kind_word Sent = codes "sent"
kind_word Received = codes "received"
kind_word Notice = codes "notice"

-- kind, Site-ID, xTR-ID and Key ID
abbrev pub key_of : Pair → Row
key_of p = Text (kind_word p.kind) ∷ Text (encode_lower (to_be_bytes w64 p.router.site)) ∷ Text (encode_lower p.router.xtr) ∷ Int (pos p.key) ∷ []

-- the nonce in 20 decimal digits
abbrev pub nonce_column : ℕ → Value
nonce_column nonce = Text (last_digits 20 nonce)

-- the columns of a pair, and the nonce
abbrev pub row_of : Pair → ℕ → Row
row_of p nonce = key_of p ++ Text (last_digits 20 nonce) ∷ []

-- the first four columns of a row name the pair
pub record TellsPair (row : Row) (pair : Pair) : Type 0 where
  pub kind : column row 0 ≡ Text (kind_word pair.kind)
  pub site : column row 1 ≡ Text (encode_lower (to_be_bytes w64 pair.router.site))
  pub xtr : column row 2 ≡ Text (encode_lower pair.router.xtr)
  pub key : column row 3 ≡ Int (pos pair.key)

-- and the fifth has the nonce
pub record TellsNonce (row : Row) (kept : KeptNonce) : Type 0 where
  pub pair : TellsPair row kept.pair
  pub nonce : column row 4 ≡ nonce_column kept.nonce

-- one of the rows does so
abbrev pub IsTold : List Row → KeptNonce → Type 0
IsTold rows kept = Any (λ row. TellsNonce row kept) rows

-- the nonce whose digits they are is found
abbrev pub FindsNonce : List ℕ → Option ℕ → Type 0
FindsNonce digits answer = (nonce : ℕ) → nonce < 2 ^ 64 → digits ≡ last_digits 20 nonce → answer ≡ Some nonce

-- The line of a nonce that was accepted, and the nonce whose line a text is.
use Rattle.std.specs.Prelude.{◌≡◌, ◌↔◌, ◌&&◌, nat_eq, ℕ, List, ◌++◌, codes, Option, Some}
use Rattle.std.specs.Cmp.Lexicographic.{pointwise}
use Rattle.std.specs.Fmt.{decimal}
use Rattle.std.specs.Int.{w64, to_be_bytes}
use Rattle.hex.specs.Hex.{encode_lower}
use Rattle.lisp_records.specs.declared.router.RouterId.{RouterId}
use Rattle.lisp_texts.specs.Form.{site_id_of, xtr_of}
use Rattle.lisp_texts.specs.Number.{number_of}
use Rattle.lisp_texts.specs.Reading.{◌>>=◌, cut, if_so, number_below}
use Rattle.lisp_upkeep.specs.declared.accepted_nonce.AcceptedNonce.{AcceptedNonce}
use Rattle.lisp_upkeep.specs.declared.line.LineWord.{LineWord}
use Rattle.lisp_upkeep.specs.declared.line.LineWord.TheVariants.{Kept, Forgotten}
use Rattle.lisp_upkeep.specs.AcceptedNonce.{is_accepted, IsAccepted}

-- what became of a nonce, in a word
abbrev pub word_text : LineWord → List ℕ
word_text Kept = codes "kept"
word_text Forgotten = codes "forgotten"

-- `SITE XTR`: Site-ID and xTR-ID in lower case hexadecimal digits
abbrev pub identity_text : RouterId → List ℕ
identity_text r = encode_lower (to_be_bytes w64 r.site) ++ codes " " ++ encode_lower r.xtr

-- `WORD SITE XTR`
abbrev pub router_words : LineWord → RouterId → List ℕ
router_words word r = word_text word ++ codes " " ++ identity_text r

-- `WORD SITE XTR key K nonce N`: Key ID and nonce in decimal without leading zeros
abbrev pub line_text : LineWord → AcceptedNonce → List ℕ
line_text word n = router_words word n.router ++ codes " key " ++ decimal n.key ++ codes " nonce " ++ decimal n.nonce

-- the nonce whose parts the words of a text are
unfoldable pub parts_of : List ℕ → Option AcceptedNonce
parts_of text = do
  first ← cut 32 text
  site ← cut 32 first.1
  xtr ← cut 32 site.1
  third ← cut 32 xtr.1
  key ← cut 32 third.1
  last ← cut 32 key.1
  site_id ← site_id_of site.0
  xtr_id ← xtr_of xtr.0
  key_id ← number_below 256 key.0
  number ← number_of last.1
  Some (record { router = record { site = site_id; xtr = xtr_id }; key = key_id; nonce = number })

-- the nonce whose line, without its line feed, a text is
unfoldable pub nonce_of : List ℕ → Option AcceptedNonce
nonce_of text = parts_of text >>= λ n. if_so (is_accepted n && pointwise nat_eq (line_text Kept n) text) n

-- a text is the line of one nonce, which is found by it, or of none
abbrev pub LinesFindNonces : Type 0
LinesFindNonces = (text : List ℕ) (n : AcceptedNonce) → (nonce_of text ≡ Some n) ↔ (IsAccepted n × (line_text Kept n ≡ text))

-- two nonces don't share a line
abbrev pub LinesAreOfOneNonce : Type 0
LinesAreOfOneNonce = (m n : AcceptedNonce) → IsAccepted m → IsAccepted n → line_text Kept m ≡ line_text Kept n → m ≡ n

-- The words of a line: its kind, the names behind that, its number, and keys with their values.
use Rattle.std.specs.Prelude.{ℕ, ◌==◌, nat_lt, Bool, false, ◌&&◌, ◌||◌, List, [], ◌∷◌, length, codes, map, Option, Some, None, if◌then◌else◌}
use Rattle.std.specs.Char.{is_ascii_digit}
use Rattle.std.specs.List.{list_all, list_any, slice_split}
use Rattle.std.specs.Option.{option_and_then}
use Rattle.std.specs.Str.{bytes_eq}
use Rattle.lisp_texts.specs.Number.{number_of}
use denote.Ref.{Bor}

-- the texts of words
abbrev pub texts : List (Bor (List ℕ)) → List (List ℕ)
texts words = map (λ w. w.now) words

-- a space (32) divides the words of a line
abbrev pub words_of : List ℕ → List (List ℕ)
words_of line = slice_split (λ b. b == 32) line

-- a word is one of these
abbrev pub is_among : List (List ℕ) → List ℕ → Bool
is_among names word = list_any (λ name. bytes_eq word name) names

-- ---- names behind the kind of a line: none; those of two nodes; or of one, behind any other kind
abbrev pub nameless : List (List ℕ)
nameless = codes "comes" ∷ codes "dropped" ∷ codes "fault" ∷ codes "goes" ∷ codes "lost" ∷ codes "nowhere" ∷ codes "record" ∷ codes "tick" ∷ []

abbrev pub paired : List (List ℕ)
paired = codes "accepted" ∷ codes "acks" ∷ codes "counted" ∷ codes "done" ∷ codes "due" ∷ codes "expired" ∷ codes "moved" ∷ codes "notice" ∷ codes "noticed" ∷ codes "resent" ∷ codes "sent" ∷ codes "silent" ∷ []

-- ---- keys, whose value is the next word: a number, or a text

abbrev pub number_keys : List (List ℕ)
number_keys = codes "age" ∷ codes "datagram" ∷ codes "fault" ∷ codes "key" ∷ codes "longest_save_ms" ∷ codes "nonces" ∷ codes "now" ∷ codes "part" ∷ codes "read" ∷ codes "record" ∷ codes "records" ∷ codes "replays" ∷ codes "requests" ∷ codes "rows" ∷ codes "sites" ∷ codes "slowest_reply_us" ∷ codes "standing_notices" ∷ codes "store" ∷ codes "times" ∷ []

abbrev pub text_keys : List (List ℕ)
text_keys = codes "from" ∷ codes "latest" ∷ codes "nonce" ∷ codes "prefix" ∷ codes "resolve" ∷ codes "saved" ∷ codes "site" ∷ codes "to" ∷ codes "xtr" ∷ []

abbrev pub is_key : List ℕ → Bool
is_key word = is_among number_keys word || is_among text_keys word

-- ---- numbers

-- at most 15 digits without leading zeros (48): each reader of JSON keeps such a number exactly (RFC 8259 section 6)
abbrev pub is_decimal : List ℕ → Bool
is_decimal [] = false
is_decimal (first ∷ digits) = if first == 48 then length digits == 0 else is_ascii_digit first && nat_lt (length digits) 15 && list_all is_ascii_digit digits

-- a number of a refusal or a fault has 16 bits
abbrev pub in_16_bits : ℕ → Option ℕ
in_16_bits number = if nat_lt number 65536 then Some number else None

-- it stands behind the names of these
abbrev pub numbered : List (List ℕ)
numbered = codes "fault" ∷ codes "refused" ∷ []

abbrev pub number_in : List ℕ → List (List ℕ) → Option ℕ
number_in kind [] = None
number_in kind (word ∷ _) = if is_among numbered kind && is_decimal word then option_and_then in_16_bits (number_of word) else None

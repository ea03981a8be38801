-- The name of a pair's file, and the pair whose file has a name.
use Rattle.std.specs.Prelude.{◌≡◌, ◌↔◌, ℕ, ◌^◌, Bool, IsTrue, ◌&&◌, ◌==◌, nat_lt, nat_eq, if◌then◌else◌, List, [], ◌∷◌, ◌++◌, length, slice_range, slice_index, codes, Option, Some, None}
use Rattle.std.specs.Cmp.Lexicographic.{pointwise}
use Rattle.std.specs.Int.{w64, to_be_bytes, from_be_bytes}
use Rattle.std.specs.List.{list_all, ends_with}
use Rattle.std.specs.Result.{result_unwrap_or}
use Rattle.hex.specs.Hex.{encode_lower, decode_of}
use Rattle.lisp_nonces.specs.declared.pair.PairKind.{PairKind}
use Rattle.lisp_nonces.specs.declared.pair.PairKind.TheVariants.{Sent, Received, Notice}
use Rattle.lisp_nonces.specs.declared.pair.Pair.{Pair}

-- bytes, and no other numbers
abbrev pub AreBytes : List ℕ → Type 0
AreBytes bytes = IsTrue (list_all (λ b. nat_lt b 256) bytes)

-- a pair of a router whose Site-ID has 64 bits and whose xTR-ID has 16 bytes, under a Key ID of one byte
abbrev pub is_pair : Pair → Bool
is_pair p = nat_lt p.router.site (2 ^ 64) && length p.router.xtr == 16 && list_all (λ b. nat_lt b 256) p.router.xtr && nat_lt p.key 256

abbrev pub IsPair : Pair → Type 0
IsPair p = IsTrue (is_pair p)

-- which nonces, in a letter
abbrev pub kind_letter : PairKind → List ℕ
kind_letter Sent = codes "s"
kind_letter Received = codes "r"
kind_letter Notice = codes "n"

-- `K-SITE-XTR-KEY.nonce`: the kind's letter, and the bytes of Site-ID, xTR-ID and Key ID in lower case hexadecimal digits
unfoldable pub pair_name : Pair → List ℕ
pair_name p = kind_letter p.kind ++ codes "-" ++ encode_lower (to_be_bytes w64 p.router.site) ++ codes "-" ++ encode_lower p.router.xtr
    ++ codes "-" ++ encode_lower (p.key ∷ []) ++ codes ".nonce"

abbrev pub kind_of_letter : List ℕ → PairKind
kind_of_letter letter =
    if pointwise nat_eq letter (kind_letter Received) then Received else if pointwise nat_eq letter (kind_letter Notice) then Notice else Sent

-- the bytes whose digits stand in a part of a text
abbrev pub bytes_in : List ℕ → ℕ → ℕ → List ℕ
bytes_in text from to = result_unwrap_or (decode_of (slice_range text from to)) []

-- the pair whose parts stand where those of a name do
abbrev pub pair_in : List ℕ → Pair
pair_in text = record {
  kind = kind_of_letter (slice_range text 0 1);
  router = record { site = from_be_bytes w64 (bytes_in text 2 18); xtr = bytes_in text 19 51 };
  key = slice_index (bytes_in text 52 54) 0;
}

-- the pair whose name a text is
unfoldable pub pair_of_name : List ℕ → Option Pair
pair_of_name text = if is_pair (pair_in text) && pointwise nat_eq (pair_name (pair_in text)) text then Some (pair_in text) else None

-- what is read of a text is the pair whose name it is, if it is one's
abbrev pub ReadsPair : List ℕ → Option Pair → Type 0
ReadsPair text read = (p : Pair) → IsPair p → pair_name p ≡ text → read ≡ Some p

-- a text is as long as a name, and ends as one does
abbrev pub HasFormOfName : List ℕ → Type 0
HasFormOfName text = (length text ≡ 60) × IsTrue (ends_with nat_eq text (codes ".nonce"))

-- the name of a pair does
abbrev pub NamesHaveTheirForm : Type 0
NamesHaveTheirForm = (p : Pair) → IsPair p → HasFormOfName (pair_name p)

-- a text is the name of one pair, which is found by it, or of none
abbrev pub NamesFindPairs : Type 0
NamesFindPairs = (text : List ℕ) (p : Pair) → (pair_of_name text ≡ Some p) ↔ (IsPair p × (pair_name p ≡ text))

-- two pairs don't share a name
abbrev pub NamesAreOfOnePair : Type 0
NamesAreOfOnePair = (p q : Pair) → IsPair p → IsPair q → pair_name p ≡ pair_name q → p ≡ q

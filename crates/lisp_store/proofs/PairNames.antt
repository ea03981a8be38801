-- The name of a pair's file is that of no other pair.
use Rattle.std.proofs.Common.{◌≡◌, ℕ, zero, suc, ◌+◌, ◌-◌, ◌*◌, ◌/◌, ◌^◌, ◌<◌, ◌≤◌, ◌&&◌, nat_eq, nat_lt, Bool, true, false, cond, List, [], ◌∷◌, ◌++◌, length, take, drop, append_assoc, slice_index, slice_range, codes, Option, Some, None, Result, Ok, Err, refl, sym, ap, subst, ◌∙◌, arith}
use Rattle.std.specs.Cmp.Lexicographic.{pointwise, bytes_decides}
use Rattle.std.specs.Int.{w64, byte_at, bytes_high_first, to_be_bytes, from_be_bytes}
use Rattle.std.specs.List.{list_all}
use Rattle.std.specs.Result.{result_unwrap_or}
use Rattle.std.specs.Str.{IsAscii, IsUtf8}
use Rattle.std.specs.Bool.{then_some}
use Rattle.std.specs.Prelude.{MatchResult}
use Rattle.hex.specs.declared.error.FromHexError.{FromHexError}
use Rattle.std.proofs.lemmas.Bool.{and_parts, and_from, both_ways, ltb-true, eqb-true, lt-ltb}
use Rattle.std.proofs.lemmas.Str.{IsUtf8-from_ascii, IsAscii-append}
use Rattle.std.proofs.lemmas.List.{length-append, length-drop, take_all, take-append-le, drop-append-le, drop_at}
use Rattle.std.proofs.lemmas.Nat.{from_be_bytes-to_be_bytes_8, mod_below}
use Rattle.std.proofs.lemmas.Option.{cond_some, same_Some}
use Rattle.hex.specs.Hex.{IsBytes, encode_lower, decode_of, decode_sized, lower_digits}
use Rattle.hex.proofs.HexLemmas.{length-encode_with, IsAscii-encode_with, decode_of-encode_lower, decode_sized-twice}
use Rattle.lisp_nonces.specs.declared.pair.PairKind.{PairKind}
use Rattle.lisp_nonces.specs.declared.pair.PairKind.TheVariants.{Sent, Received, Notice}
use Rattle.lisp_nonces.specs.declared.pair.Pair.{Pair}
use Rattle.lisp_store.specs.PairName.{is_pair, IsPair, AreBytes, kind_letter, kind_of_letter, pair_in, pair_name, pair_of_name, NamesFindPairs, NamesAreOfOnePair, HasFormOfName, NamesHaveTheirForm, ReadsPair}

-- ---- parts of a list

-- a part before what is added at the end
part_before : (xs ys : List ℕ) (from to : ℕ) → from ≤ to → to ≤ length xs → slice_range (xs ++ ys) from to ≡ slice_range xs from to
part_before xs ys from to order within =
    ap (take (to - from)) (drop-append-le from xs ys (omega (arith, order, within)))
    ∙ take-append-le (to - from) (drop from xs) ys (omega (arith, within, length-drop from xs))

part_before_both : (xs ys zs : List ℕ) (from to : ℕ) → from ≤ to → to ≤ length xs → slice_range (xs ++ ys ++ zs) from to ≡ slice_range xs from to
part_before_both xs ys zs from to order within = part_before (xs ++ ys) zs from to order (omega (arith, within, length-append xs ys)) ∙ part_before xs ys from to order within

-- what is added at the end
part_added : (xs ys : List ℕ) (from to : ℕ) → length xs ≡ from → from + length ys ≡ to → slice_range (xs ++ ys) from to ≡ ys
part_added xs ys from to front all = ap (take (to - from)) (drop_at xs ys from front) ∙ take_all (to - from) ys (omega (arith, all))

-- the parts of a name, whose letter is one byte, and whose digits are 16, 32 and 2
module _ (letter site xtr key : List ℕ) (one : length letter ≡ 1) (sixteen : length site ≡ 16) (thirty_two : length xtr ≡ 32) (two : length key ≡ 2) where
  abbrev before_site : List ℕ
  before_site = letter ++ codes "-"

  abbrev after_site : List ℕ
  after_site = before_site ++ site ++ codes "-"

  abbrev after_xtr : List ℕ
  after_xtr = after_site ++ xtr ++ codes "-"

  abbrev name : List ℕ
  name = after_xtr ++ key ++ codes ".nonce"

  length-before_site : length before_site ≡ 2
  length-before_site = omega (arith, one, length-append letter (codes "-"))

  length-after_site : length after_site ≡ 19
  length-after_site = omega (arith, length-before_site, sixteen, length-append before_site site, length-append (before_site ++ site) (codes "-"))

  length-after_xtr : length after_xtr ≡ 52
  length-after_xtr = omega (arith, length-after_site, thirty_two, length-append after_site xtr, length-append (after_site ++ xtr) (codes "-"))

  letter_of_name : slice_range name 0 1 ≡ letter
  letter_of_name =
      let first : 1 ≤ length letter = omega (arith, one) in
      let site_at : 1 ≤ length before_site = omega (arith, length-before_site) in
      let xtr_at : 1 ≤ length after_site = omega (arith, length-after_site) in
      let key_at : 1 ≤ length after_xtr = omega (arith, length-after_xtr) in
      part_before_both after_xtr key (codes ".nonce") 0 1 (omega arith) key_at
      ∙ part_before_both after_site xtr (codes "-") 0 1 (omega arith) xtr_at
      ∙ part_before_both before_site site (codes "-") 0 1 (omega arith) site_at
      ∙ part_before letter (codes "-") 0 1 (omega arith) first
      ∙ take_all 1 letter (omega (arith, one))

  site_of_name : slice_range name 2 18 ≡ site
  site_of_name =
      part_before_both after_xtr key (codes ".nonce") 2 18 (omega arith) (omega (arith, length-after_xtr))
      ∙ part_before_both after_site xtr (codes "-") 2 18 (omega arith) (omega (arith, length-after_site))
      ∙ part_before (before_site ++ site) (codes "-") 2 18 (omega arith) (omega (arith, length-before_site, sixteen, length-append before_site site))
      ∙ part_added before_site site 2 18 length-before_site (omega (arith, sixteen))

  xtr_of_name : slice_range name 19 51 ≡ xtr
  xtr_of_name =
      part_before_both after_xtr key (codes ".nonce") 19 51 (omega arith) (omega (arith, length-after_xtr))
      ∙ part_before (after_site ++ xtr) (codes "-") 19 51 (omega arith) (omega (arith, length-after_site, thirty_two, length-append after_site xtr))
      ∙ part_added after_site xtr 19 51 length-after_site (omega (arith, thirty_two))

  key_of_name : slice_range name 52 54 ≡ key
  key_of_name =
      part_before (after_xtr ++ key) (codes ".nonce") 52 54 (omega arith) (omega (arith, length-after_xtr, two, length-append after_xtr key))
      ∙ part_added after_xtr key 52 54 length-after_xtr (omega (arith, two))

  length-name : length name ≡ 60
  length-name = omega (arith, length-after_xtr, two, length-append after_xtr key, length-append (after_xtr ++ key) (codes ".nonce"))

  end_of_name : drop (length name - 6) name ≡ codes ".nonce"
  end_of_name =
      ap (λ (n : ℕ). drop (n - 6) name) length-name
      ∙ drop_at (after_xtr ++ key) (codes ".nonce") 54 (omega (arith, length-after_xtr, two, length-append after_xtr key))

-- ---- a pair from its name

letter_back : (kind : PairKind) → kind_of_letter (kind_letter kind) ≡ kind
letter_back Sent = refl
letter_back Received = refl
letter_back Notice = refl

length-letter : (kind : PairKind) → length (kind_letter kind) ≡ 1
length-letter Sent = refl
length-letter Received = refl
length-letter Notice = refl

-- numbers that are all below a bound
all_below : (bound : ℕ) → 0 < bound → (xs : List ℕ) → list_all (λ b. nat_lt b bound) xs ≡ true → (i : ℕ) → slice_index xs i < bound
all_below bound some [] all i = some
all_below bound some (x ∷ xs) all zero = ltb-true x bound (and_parts (nat_lt x bound) (list_all (λ b. nat_lt b bound) xs) all).0
all_below bound some (x ∷ xs) all (suc i) = all_below bound some xs (and_parts (nat_lt x bound) (list_all (λ b. nat_lt b bound) xs) all).1 i

bytes_of : (xs : List ℕ) → AreBytes xs → IsBytes xs
bytes_of xs all = all_below 256 (omega arith) xs all

byte_alone : (b : ℕ) → b < 256 → IsBytes (b ∷ [])
byte_alone b lt zero = lt
byte_alone b lt (suc i) = omega arith

byte_below : (k n : ℕ) → byte_at k n < 256
byte_below zero n = mod_below n 256 (omega arith)
byte_below (suc k) n = mod_below (n / 256 ^ suc k) 256 (omega arith)

high_first : (k n : ℕ) → IsBytes (bytes_high_first k n)
high_first zero n i = omega arith
high_first (suc k) n zero = byte_below k n
high_first (suc k) n (suc i) = high_first k n i

big_endian : (n : ℕ) → IsBytes (to_be_bytes w64 n)
big_endian n = high_first 8 n

-- digits that are read are the bytes that they were written of
read_back : (bytes part : List ℕ) → IsBytes bytes → part ≡ encode_lower bytes → result_unwrap_or (decode_of part) [] ≡ bytes
read_back bytes part all is = ap (λ r. result_unwrap_or r []) (ap decode_of is ∙ decode_of-encode_lower bytes all)

-- what a pair is
record PairParts (p : Pair) : Type 0 where
  site : p.router.site < 2 ^ 64
  xtr : length p.router.xtr ≡ 16
  bytes : IsBytes p.router.xtr
  key : p.key < 256

parts_of : (p : Pair) → IsPair p → PairParts p
parts_of p is =
    let all = and_parts _ _ is in
    let front = and_parts _ _ all.0 in
    let first = and_parts _ _ front.0 in
    record { site = ltb-true _ _ first.0; xtr = eqb-true _ _ first.1; bytes = bytes_of _ front.1; key = ltb-true _ _ all.1 }

-- the parts of a pair's name are those of the pair
pub pair_back : (p : Pair) → IsPair p → pair_in (pair_name p) ≡ p
unfolding pair_name
pair_back p is =
    let parts = parts_of p is in
    let site = encode_lower (to_be_bytes w64 p.router.site) in
    let xtr = encode_lower p.router.xtr in
    let key = encode_lower (p.key ∷ []) in
    let one = length-letter p.kind in
    let sixteen : length site ≡ 16 = length-encode_with lower_digits (to_be_bytes w64 p.router.site) in
    let thirty_two : length xtr ≡ 32 = omega (arith, parts.xtr, length-encode_with lower_digits p.router.xtr) in
    let two : length key ≡ 2 = length-encode_with lower_digits (p.key ∷ []) in
    let kinds = ap kind_of_letter (letter_of_name (kind_letter p.kind) site xtr key one sixteen thirty_two two) ∙ letter_back p.kind in
    let sites = ap (from_be_bytes w64) (read_back (to_be_bytes w64 p.router.site) _ (big_endian p.router.site) (site_of_name (kind_letter p.kind) site xtr key one sixteen thirty_two two)) ∙ from_be_bytes-to_be_bytes_8 p.router.site parts.site in
    let xtrs = read_back p.router.xtr _ parts.bytes (xtr_of_name (kind_letter p.kind) site xtr key one sixteen thirty_two two) in
    let keys = ap (λ (bytes : List ℕ). slice_index bytes 0) (read_back (p.key ∷ []) _ (byte_alone p.key parts.key) (key_of_name (kind_letter p.kind) site xtr key one sixteen thirty_two two)) in
    λ i. record { kind = kinds i; router = record { site = sites i; xtr = xtrs i }; key = keys i }

-- the parts of a pair's name are the digits of the pair's
pub digits_of_name : (p : Pair) → IsPair p → (slice_range (pair_name p) 0 1 ≡ kind_letter p.kind) × (slice_range (pair_name p) 2 18 ≡ encode_lower (to_be_bytes w64 p.router.site))
    × (slice_range (pair_name p) 19 51 ≡ encode_lower p.router.xtr) × (slice_range (pair_name p) 52 54 ≡ encode_lower (p.key ∷ []))
unfolding pair_name
digits_of_name p is =
    let site = encode_lower (to_be_bytes w64 p.router.site) in
    let xtr = encode_lower p.router.xtr in
    let key = encode_lower (p.key ∷ []) in
    let one = length-letter p.kind in
    let sixteen : length site ≡ 16 = length-encode_with lower_digits (to_be_bytes w64 p.router.site) in
    let thirty_two : length xtr ≡ 32 = omega (arith, (parts_of p is).xtr, length-encode_with lower_digits p.router.xtr) in
    let two : length key ≡ 2 = length-encode_with lower_digits (p.key ∷ []) in (
      letter_of_name (kind_letter p.kind) site xtr key one sixteen thirty_two two,
      site_of_name (kind_letter p.kind) site xtr key one sixteen thirty_two two,
      xtr_of_name (kind_letter p.kind) site xtr key one sixteen thirty_two two,
      key_of_name (kind_letter p.kind) site xtr key one sixteen thirty_two two,
    )

-- a pair's name has the form of one
pub names_have_their_form : NamesHaveTheirForm
unfolding pair_name
names_have_their_form p is =
    let site = encode_lower (to_be_bytes w64 p.router.site) in
    let xtr = encode_lower p.router.xtr in
    let key = encode_lower (p.key ∷ []) in
    let one = length-letter p.kind in
    let sixteen : length site ≡ 16 = length-encode_with lower_digits (to_be_bytes w64 p.router.site) in
    let thirty_two : length xtr ≡ 32 = omega (arith, (parts_of p is).xtr, length-encode_with lower_digits p.router.xtr) in
    let two : length key ≡ 2 = length-encode_with lower_digits (p.key ∷ []) in
    let same = (bytes_decides _ _).1 (sym (end_of_name (kind_letter p.kind) site xtr key one sixteen thirty_two two)) in
    (length-name (kind_letter p.kind) site xtr key one sixteen thirty_two two, same)

-- a pair's name gives the pair back
pub found_by_name : (p : Pair) → IsPair p → pair_of_name (pair_name p) ≡ Some p
unfolding pair_of_name
found_by_name p is =
    let back = pair_back p is in
    let whole : is_pair (pair_in (pair_name p)) ≡ true = ap is_pair back ∙ is in
    let same : pointwise nat_eq (pair_name (pair_in (pair_name p))) (pair_name p) ≡ true = (bytes_decides _ _).1 (ap pair_name back) in
    ap (λ (b : Bool). cond b (Some (pair_in (pair_name p))) None) (and_from _ _ whole same) ∙ ap Some back

-- a name is that of the pair that is found by it
pub name_of_found : (text : List ℕ) (p : Pair) → pair_of_name text ≡ Some p → IsPair p × (pair_name p ≡ text)
unfolding pair_of_name
name_of_found text p is =
    let found = cond_some (is_pair (pair_in text) && pointwise nat_eq (pair_name (pair_in text)) text) (pair_in text) p is in
    let both = and_parts (is_pair (pair_in text)) (pointwise nat_eq (pair_name (pair_in text)) text) found.0 in
    (ap is_pair (sym found.1) ∙ both.0, ap pair_name (sym found.1) ∙ (bytes_decides _ _).0 both.1)

pub names_find_pairs : NamesFindPairs
names_find_pairs text p = (name_of_found text p, λ is. ap pair_of_name (sym is.1) ∙ found_by_name p is.0)

pub one_pair : NamesAreOfOnePair
one_pair p q p_is q_is same = same_Some p q (sym (found_by_name p p_is) ∙ ap pair_of_name same ∙ found_by_name q q_is)

-- ---- a pair that is read

-- digits of so many bytes are decoded to them
pub decoded : (digits bytes : List ℕ) (n : ℕ) → length bytes ≡ n → IsBytes bytes → digits ≡ encode_lower bytes → decode_sized digits n ≡ Ok bytes
decoded digits bytes n len all is =
    ap (λ (d : List ℕ). decode_sized d n) is
    ∙ decode_sized-twice (encode_lower bytes) n (length-encode_with lower_digits bytes ∙ ap (λ (k : ℕ). 2 * k) len)
    ∙ decode_of-encode_lower bytes all

-- what decoding them answers
pub decodes : (digits bytes out : List ℕ) (n room : ℕ) (r : Result (Unit {0}) FromHexError) → room ≡ n → length bytes ≡ n → IsBytes bytes → digits ≡ encode_lower bytes
    → MatchResult (decode_sized digits room) (λ b. (r ≡ Ok tt) × (out ≡ b)) (λ e. r ≡ Err e) → (r ≡ Ok tt) × (out ≡ bytes)
decodes digits bytes out n room r same len all is h =
    subst (λ (d : Result (List ℕ) FromHexError). MatchResult d (λ b. (r ≡ Ok tt) × (out ≡ b)) (λ e. r ≡ Err e)) (ap (decode_sized digits) same ∙ decoded digits bytes n len all is) h

-- the parts of the pair whose name a text is, as they are read of it
pub read_site : (text : List ℕ) (p : Pair) (r : Option (List ℕ)) → ((bytes : List ℕ) → length bytes ≡ 8 → IsBytes bytes → slice_range text 2 18 ≡ encode_lower bytes → r ≡ Some bytes)
    → IsPair p → pair_name p ≡ text → r ≡ Some (to_be_bytes w64 p.router.site)
read_site text p r reads is same = reads (to_be_bytes w64 p.router.site) refl (big_endian p.router.site) (ap (λ (t : List ℕ). slice_range t 2 18) (sym same) ∙ (digits_of_name p is).1)

pub read_xtr : (text : List ℕ) (p : Pair) (r : Option (List ℕ)) → ((bytes : List ℕ) → length bytes ≡ 16 → IsBytes bytes → slice_range text 19 51 ≡ encode_lower bytes → r ≡ Some bytes)
    → IsPair p → pair_name p ≡ text → r ≡ Some p.router.xtr
read_xtr text p r reads is same = let parts = parts_of p is in reads p.router.xtr parts.xtr parts.bytes (ap (λ (t : List ℕ). slice_range t 19 51) (sym same) ∙ (digits_of_name p is).2)

pub read_key : (text : List ℕ) (p : Pair) (r : Option (List ℕ)) → ((bytes : List ℕ) → length bytes ≡ 1 → IsBytes bytes → slice_range text 52 54 ≡ encode_lower bytes → r ≡ Some bytes)
    → IsPair p → pair_name p ≡ text → r ≡ Some (p.key ∷ [])
read_key text p r reads is same = let parts = parts_of p is in reads (p.key ∷ []) refl (byte_alone p.key parts.key) (ap (λ (t : List ℕ). slice_range t 52 54) (sym same) ∙ (digits_of_name p is).3)

pub read_pair : (text site xtr key letter : List ℕ) (p : Pair) → IsPair p → pair_name p ≡ text → slice_range text 0 1 ≡ letter → site ≡ to_be_bytes w64 p.router.site → xtr ≡ p.router.xtr → key ≡ p.key ∷ []
    → record { kind = kind_of_letter letter; router = record { site = from_be_bytes w64 site; xtr = xtr }; key = slice_index key 0 } ≡ p
read_pair text site xtr key letter p is same front site_is xtr_is key_is =
    let kinds : kind_of_letter letter ≡ p.kind = ap kind_of_letter (sym front ∙ ap (λ (t : List ℕ). slice_range t 0 1) (sym same) ∙ (digits_of_name p is).0) ∙ letter_back p.kind in
    let sites : from_be_bytes w64 site ≡ p.router.site = ap (from_be_bytes w64) site_is ∙ from_be_bytes-to_be_bytes_8 p.router.site (parts_of p is).site in
    let keys : slice_index key 0 ≡ p.key = ap (λ (bytes : List ℕ). slice_index bytes 0) key_is in
    λ i. record { kind = kinds i; router = record { site = sites i; xtr = xtr_is i }; key = keys i }

-- a text that is no pair's name
none_named_by : (text : List ℕ) (r : Option Pair) → pair_of_name text ≡ r → ((p : Pair) → IsPair p → pair_name p ≡ text → ⊥) → r ≡ None
none_named_by text None is not = refl
none_named_by text (Some p) is not = let named = name_of_found text p is in absurd (not p named.0 named.1)

pub none_named : (text : List ℕ) → ((p : Pair) → IsPair p → pair_name p ≡ text → ⊥) → pair_of_name text ≡ None
none_named text not = none_named_by text (pair_of_name text) refl not

-- the test whether a pair that was read has the name
tested : (text : List ℕ) (p : Pair) → IsPair p → ReadsPair text (Some p) → (b : Bool) → pointwise nat_eq (pair_name p) text ≡ b → then_some b p ≡ pair_of_name text
tested text p is reads true same = sym (ap pair_of_name (sym ((bytes_decides _ _).0 same)) ∙ found_by_name p is)
tested text p is reads false other =
    sym (none_named text (λ q q_is named.
    let same : p ≡ q = same_Some p q (reads q q_is named) in
    let all : pointwise nat_eq (pair_name p) text ≡ true = (bytes_decides _ _).1 (ap pair_name same ∙ named) in
    both_ways (pointwise nat_eq (pair_name p) text) other all))

pub named_by : (text : List ℕ) (p : Pair) → IsPair p → ReadsPair text (Some p) → then_some (pointwise nat_eq (pair_name p) text) p ≡ pair_of_name text
named_by text p is reads = tested text p is reads (pointwise nat_eq (pair_name p) text) refl

-- no text of another form is a pair's name
pub formless : (text : List ℕ) → ¬ HasFormOfName text → pair_of_name text ≡ None
formless text not = none_named text (λ p is same. not (subst HasFormOfName same (names_have_their_form p is)))

-- ---- a name from its parts

-- bytes pass the test
pub bytes_pass : (xs : List ℕ) → IsBytes xs → AreBytes xs
bytes_pass [] all = refl
bytes_pass (x ∷ xs) all = and_from _ _ (lt-ltb x 256 (all 0)) (bytes_pass xs (λ i. all (suc i)))

pub name_of_parts : (p : Pair) (front site xtr key : List ℕ) → front ≡ kind_letter p.kind ++ codes "-" → site ≡ encode_lower (to_be_bytes w64 p.router.site) ++ codes "-"
    → xtr ≡ encode_lower p.router.xtr ++ codes "-" → key ≡ encode_lower (p.key ∷ []) ++ codes ".nonce" → front ++ (site ++ (xtr ++ key)) ≡ pair_name p
unfolding pair_name
name_of_parts p front site xtr key front_is site_is xtr_is key_is = (λ i. front_is i ++ (site_is i ++ (xtr_is i ++ key_is i))) ∙ simp append_assoc

literal : (xs : List ℕ) → list_all (λ b. nat_lt b 128) xs ≡ true → IsAscii xs
literal xs all = all_below 128 (omega arith) xs all

letter_is_ascii : (kind : PairKind) → IsAscii (kind_letter kind)
letter_is_ascii Sent = literal (codes "s") refl
letter_is_ascii Received = literal (codes "r") refl
letter_is_ascii Notice = literal (codes "n") refl

digits_are_ascii : (bytes : List ℕ) → IsAscii (encode_lower bytes)
digits_are_ascii bytes = IsAscii-encode_with lower_digits bytes (literal lower_digits refl)

-- a name is a text
pub name_is_text : (p : Pair) → IsUtf8 (pair_name p)
unfolding pair_name
name_is_text p =
    let dash = literal (codes "-") refl in
    let site = IsAscii-append _ _ (IsAscii-append _ _ (letter_is_ascii p.kind) dash) (digits_are_ascii (to_be_bytes w64 p.router.site)) in
    let xtr = IsAscii-append _ _ (IsAscii-append _ _ site dash) (digits_are_ascii p.router.xtr) in
    let key = IsAscii-append _ _ (IsAscii-append _ _ xtr dash) (digits_are_ascii (p.key ∷ [])) in
    IsUtf8-from_ascii (pair_name p) (IsAscii-append _ _ key (literal (codes ".nonce") refl))

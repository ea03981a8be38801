-- A line is that of one nonce, which is found by it.
use Rattle.std.proofs.Common.{◌≡◌, ℕ, zero, suc, ◌+◌, ◌/◌, ◌^◌, ◌<◌, ◌&&◌, nat_eq, nat_lt, eqb, not, Bool, true, false, cond, List, [], ◌∷◌, ◌++◌, length, append_assoc, slice_index, codes, Option, Some, None, Ok, refl, sym, ap, ◌∙◌, arith}
use Rattle.std.specs.Cmp.Lexicographic.{pointwise, bytes_decides}
use Rattle.std.specs.Fmt.{decimal}
use Rattle.std.specs.Int.{w64, byte_at, bytes_high_first, to_be_bytes, from_be_bytes}
use Rattle.std.specs.Bool.{then_some}
use Rattle.std.specs.List.{list_all}
use Rattle.std.specs.Str.{IsAscii, IsUtf8}
use Rattle.std.specs.Option.{option_map}
use Rattle.std.specs.Result.{result_ok}
use Rattle.std.proofs.lemmas.Bool.{and_parts, and_from, ltb-true, eqb-true}
use Rattle.std.proofs.lemmas.Nat.{from_be_bytes-to_be_bytes_8, mod_below}
use Rattle.std.proofs.lemmas.Option.{cond_some, same_Some}
use Rattle.std.proofs.lemmas.Str.{IsUtf8-from_ascii}
use Rattle.hex.proofs.HexLemmas.{IsAscii-encode_with}
use Rattle.hex.specs.Hex.{IsBytes, encode_lower, encode_with, lower_digits}
use Rattle.lisp_store.proofs.PairNames.{decoded}
use Rattle.lisp_texts.specs.Form.{site_id_of, xtr_of}
use Rattle.lisp_texts.specs.Number.{number_of}
use Rattle.lisp_texts.specs.Reading.{◌>>=◌, if_so, number_below}
use Rattle.lisp_texts.proofs.ByteNumbers.{number_again}
use Rattle.lisp_texts.proofs.Cut.{IsFree, cut-at, free-decimal}
use Rattle.lisp_texts.proofs.NumberTexts.{below_again}
use Rattle.lisp_texts.proofs.Options.{bind_some}
use Rattle.lisp_upkeep.specs.declared.accepted_nonce.AcceptedNonce.{AcceptedNonce}
use Rattle.lisp_upkeep.specs.declared.line.LineWord.TheVariants.{Kept}
use Rattle.lisp_upkeep.specs.AcceptedNonce.{is_accepted, IsAccepted}
use Rattle.lisp_upkeep.specs.Line.{line_text, parts_of, nonce_of, LinesFindNonces, LinesAreOfOneNonce}

-- ---- digits

byte_below : (k n : ℕ) → byte_at k n < 256
byte_below zero n = mod_below n 256 (omega arith)
byte_below (suc k) n = mod_below (n / 256 ^ suc k) 256 (omega arith)

high_first : (k n : ℕ) → IsBytes (bytes_high_first k n)
high_first zero n i = omega arith
high_first (suc k) n zero = byte_below k n
high_first (suc k) n (suc i) = high_first k n i

not_so : (b : Bool) → not b ≡ true → b ≡ false
not_so false so = refl
not_so true so = sym so

-- no digit of a table is a space, nor what stands past its end
no_space : (xs : List ℕ) → list_all (λ c. not (eqb c 32)) xs ≡ true → (i : ℕ) → eqb (slice_index xs i) 32 ≡ false
no_space [] all i = refl
no_space (x ∷ xs) all zero = not_so (eqb x 32) (and_parts (not (eqb x 32)) (list_all (λ c. not (eqb c 32)) xs) all).0
no_space (x ∷ xs) all (suc i) = no_space xs (and_parts (not (eqb x 32)) (list_all (λ c. not (eqb c 32)) xs) all).1 i

digits_free : (bytes : List ℕ) → IsFree 32 (encode_lower bytes)
unfolding encode_with
digits_free [] = tt
digits_free (b ∷ bytes) = (no_space lower_digits refl _, (no_space lower_digits refl _, digits_free bytes))

-- ---- what a nonce's numbers are

all_below : (xs : List ℕ) → list_all (λ b. nat_lt b 256) xs ≡ true → IsBytes xs
all_below [] all i = omega arith
all_below (x ∷ xs) all zero = ltb-true x 256 (and_parts (nat_lt x 256) (list_all (λ b. nat_lt b 256) xs) all).0
all_below (x ∷ xs) all (suc i) = all_below xs (and_parts (nat_lt x 256) (list_all (λ b. nat_lt b 256) xs) all).1 i

record Sizes (n : AcceptedNonce) : Type 0 where
  site : n.router.site < 2 ^ 64
  xtr : length n.router.xtr ≡ 16
  bytes : IsBytes n.router.xtr
  key : n.key < 256
  nonce : n.nonce < 2 ^ 64

sizes : (n : AcceptedNonce) → IsAccepted n → Sizes n
sizes n is =
    let whole = and_parts _ _ is in
    let all = and_parts _ _ whole.0 in
    let front = and_parts _ _ all.0 in
    let first = and_parts _ _ front.0 in
    record { site = ltb-true _ _ first.0; xtr = eqb-true _ _ first.1; bytes = all_below _ front.1; key = ltb-true _ _ all.1; nonce = ltb-true _ _ whole.1 }

-- ---- the words of a line

words : (site xtr key nonce : List ℕ) → codes "kept" ++ codes " " ++ site ++ codes " " ++ xtr ++ codes " key " ++ key ++ codes " nonce " ++ nonce
    ≡ codes "kept" ++ 32 ∷ (site ++ 32 ∷ (xtr ++ 32 ∷ (codes "key" ++ 32 ∷ (key ++ 32 ∷ (codes "nonce" ++ 32 ∷ nonce)))))
words site xtr key nonce = simp append_assoc refl

module _ (site xtr key nonce : List ℕ) (n : AcceptedNonce) (free_site : IsFree 32 site) (free_xtr : IsFree 32 xtr) (free_key : IsFree 32 key)
    (is_site : site_id_of site ≡ Some n.router.site) (is_xtr : xtr_of xtr ≡ Some n.router.xtr) (is_key : number_below 256 key ≡ Some n.key) (is_nonce : number_of nonce ≡ Some n.nonce) where
  abbrev last : List ℕ
  last = codes "nonce" ++ 32 ∷ nonce

  abbrev behind_xtr : List ℕ
  behind_xtr = codes "key" ++ 32 ∷ (key ++ 32 ∷ last)

  abbrev behind_site : List ℕ
  behind_site = xtr ++ 32 ∷ behind_xtr

  parts_at : parts_of (codes "kept" ++ 32 ∷ (site ++ 32 ∷ behind_site)) ≡ Some n
  unfolding parts_of
  parts_at = rw (
    cut-at 32 (codes "kept") (site ++ 32 ∷ behind_site) (refl, (refl, (refl, (refl, tt)))),
    cut-at 32 site behind_site free_site,
    cut-at 32 xtr behind_xtr free_xtr,
    cut-at 32 (codes "key") (key ++ 32 ∷ last) (refl, (refl, (refl, tt))),
    cut-at 32 key last free_key,
    cut-at 32 (codes "nonce") nonce (refl, (refl, (refl, (refl, (refl, tt))))),
    is_site,
    is_xtr,
    is_key,
    is_nonce,
  ) refl

-- the parts of a nonce's line are those of the nonce
parts_back : (n : AcceptedNonce) → IsAccepted n → parts_of (line_text Kept n) ≡ Some n
parts_back n is =
    let s = sizes n is in
    let site = ap (λ r. option_map (from_be_bytes w64) (result_ok r)) (decoded (encode_lower (to_be_bytes w64 n.router.site)) (to_be_bytes w64 n.router.site) 8 refl (high_first 8 n.router.site) refl) ∙ ap Some (from_be_bytes-to_be_bytes_8 n.router.site s.site) in
    let xtr = ap result_ok (decoded (encode_lower n.router.xtr) n.router.xtr 16 s.xtr s.bytes refl) in
    let key = below_again 256 (decimal n.key) n.key (number_again n.key (omega (arith, s.key))) s.key in
    ap parts_of (words (encode_lower (to_be_bytes w64 n.router.site)) (encode_lower n.router.xtr) (decimal n.key) (decimal n.nonce))
    ∙ parts_at (encode_lower (to_be_bytes w64 n.router.site)) (encode_lower n.router.xtr) (decimal n.key) (decimal n.nonce) n
    (digits_free _) (digits_free _) (free-decimal 32 n.key (omega arith) (omega (arith, s.key))) site xtr key (number_again n.nonce s.nonce)

-- ---- a nonce and its line

-- the line of a nonce gives the nonce back
found_by_line : (n : AcceptedNonce) → IsAccepted n → nonce_of (line_text Kept n) ≡ Some n
unfolding nonce_of
found_by_line n is =
    let same : pointwise nat_eq (line_text Kept n) (line_text Kept n) ≡ true = (bytes_decides (line_text Kept n) (line_text Kept n)).1 refl in
    rw (parts_back n is, and_from _ _ is same) refl

-- a line is that of the nonce that is found by it
line_of_found : (text : List ℕ) (n : AcceptedNonce) → nonce_of text ≡ Some n → IsAccepted n × (line_text Kept n ≡ text)
unfolding nonce_of
line_of_found text n e =
    let p = bind_some (parts_of text) _ n e in
    let found = cond_some (is_accepted p.0 && pointwise nat_eq (line_text Kept p.0) text) p.0 n p.2 in
    let both = and_parts (is_accepted p.0) (pointwise nat_eq (line_text Kept p.0) text) found.0 in
    (ap is_accepted (sym found.1) ∙ both.0, ap (λ (m : AcceptedNonce). line_text Kept m) (sym found.1) ∙ (bytes_decides _ _).0 both.1)

pub lines_find_nonces : LinesFindNonces
lines_find_nonces text n = (line_of_found text n, λ is. ap nonce_of (sym is.1) ∙ found_by_line n is.0)

pub lines_are_of_one_nonce : LinesAreOfOneNonce
lines_are_of_one_nonce m n m_is n_is same = same_Some m n (sym (found_by_line m m_is) ∙ ap nonce_of same ∙ found_by_line n n_is)

-- ---- a line that is read

-- a text without the parts of a line is that of no nonce
pub none_found : (text : List ℕ) → None ≡ parts_of text → None ≡ nonce_of text
unfolding nonce_of
none_found text none = ap (λ (p : Option AcceptedNonce). p >>= λ n. if_so (is_accepted n && pointwise nat_eq (line_text Kept n) text) n) none

-- the test whether a nonce that was read has the line
pub tested : (text spelled : List ℕ) (n : AcceptedNonce) → Some n ≡ parts_of text → IsAccepted n → spelled ≡ line_text Kept n → then_some (pointwise nat_eq spelled text) n ≡ nonce_of text
unfolding nonce_of
tested text spelled n parts is same =
    ap (λ (s : List ℕ). then_some (pointwise nat_eq s text) n) same
    ∙ by_test (pointwise nat_eq (line_text Kept n) text) n
    ∙ ap (λ (b : Bool). if_so (b && pointwise nat_eq (line_text Kept n) text) n) (sym is)
    ∙ ap (λ (p : Option AcceptedNonce). p >>= λ m. if_so (is_accepted m && pointwise nat_eq (line_text Kept m) text) m) parts
  where
    by_test : (b : Bool) (m : AcceptedNonce) → then_some b m ≡ if_so b m
    by_test true m = refl
    by_test false m = refl

-- digits are a text
literal : (xs : List ℕ) → list_all (λ b. nat_lt b 128) xs ≡ true → IsAscii xs
literal [] all i = omega arith
literal (x ∷ xs) all zero = ltb-true x 128 (and_parts (nat_lt x 128) (list_all (λ b. nat_lt b 128) xs) all).0
literal (x ∷ xs) all (suc i) = literal xs (and_parts (nat_lt x 128) (list_all (λ b. nat_lt b 128) xs) all).1 i

pub digits_are_text : (bytes : List ℕ) → IsUtf8 (encode_lower bytes)
digits_are_text bytes = IsUtf8-from_ascii (encode_lower bytes) (IsAscii-encode_with lower_digits bytes (literal lower_digits refl))

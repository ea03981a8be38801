-- What names, numbers and hexadecimal digits of their forms are.
use Rattle.std.proofs.Common.{◌≡◌, ℕ, ℤ, pos, negsuc, suc, ◌^◌, ◌<◌, ◌≤◌, true, ◌&&◌, leb, ltb, List, [], ◌∷◌, length, Some, sym, subst, ◌∙◌, arith}
use Rattle.std.specs.Int.{w64, from_be_bytes}
use Rattle.std.specs.List.{AllByRecursion}
use Rattle.std.specs.Result.{result_ok}
use Rattle.std.proofs.lemmas.Bool.{ltb-true, leb-true, and_parts}
use Rattle.std.proofs.lemmas.Option.{cond_some}
use Rattle.toml.specs.Data.{Data, as_integer}
use Rattle.hex.specs.Hex.{IsBytes, decode_of, decode_sized}
use Rattle.hex.proofs.HexLemmas.{decode_of-ok, decode_sized-ok, decode_sized-twice}
use Rattle.lisp_texts.specs.Form.{site_id_of, xtr_of, secret_text_of}
use Rattle.lisp_texts.proofs.Options.{bind_some, option_map-Some}
use Rattle.lisp_policy.specs.Configuration.{is_name}
use Rattle.lisp_sites.specs.Form.{name_of, byte_from, byte_as, nonce_block_from, nonce_block_as}
use Rattle.lisp_sites.proofs.Readings.{result_ok-Some}

pub name_fits : (text name : List ℕ) → name_of text ≡ Some name → is_name name ≡ true
name_fits text name e = let some = cond_some (is_name text) text name e in subst (λ (n : List ℕ). is_name n ≡ true) some.1 some.0

byte_small : (z : ℤ) (n : ℕ) → byte_from z ≡ Some n → n < 256
byte_small (pos m) n e = let some = cond_some (ltb m 256) m n e in omega (arith, some.1, ltb-true m 256 some.0)
byte_small (negsuc m) n e = cc e

pub byte_fits : (d : Data) (n : ℕ) → byte_as d ≡ Some n → n < 256
byte_fits d n e = let z = bind_some (as_integer d) byte_from n e in byte_small z.0 n z.2

block_small : (z : ℤ) (n : ℕ) → nonce_block_from z ≡ Some n → (1 ≤ n) × (n ≤ 1024)
block_small (pos m) n e =
    let some = cond_some (leb 1 m && leb m 1024) m n e in
    let both = and_parts (leb 1 m) (leb m 1024) some.0 in
    (omega (arith, some.1, leb-true 1 m both.0), omega (arith, some.1, leb-true m 1024 both.1))
block_small (negsuc m) n e = cc e

pub nonce_block_fits : (d : Data) (n : ℕ) → nonce_block_as d ≡ Some n → (1 ≤ n) × (n ≤ 1024)
nonce_block_fits d n e = let z = bind_some (as_integer d) nonce_block_from n e in block_small z.0 n z.2

-- ---- hexadecimal digits

each_byte : (bytes : List ℕ) → IsBytes bytes → AllByRecursion (λ n. n < 256) bytes
each_byte [] fits = tt
each_byte (b ∷ bytes) fits = (fits 0, each_byte bytes (λ i. fits (suc i)))

-- so many bytes
sized : (text bytes : List ℕ) (n : ℕ) → result_ok (decode_sized text n) ≡ Some bytes → (length bytes ≡ n) × IsBytes bytes
sized text bytes n e =
    let is = result_ok-Some (decode_sized text n) bytes e in
    let long = decode_sized-ok text n bytes is in
    let decoded = decode_of-ok text bytes (sym (decode_sized-twice text n long) ∙ is) in
    (omega (arith, long, decoded.2), decoded.3)

eight_bytes : (bytes : List ℕ) → IsBytes bytes → from_be_bytes w64 bytes < 2 ^ 64
eight_bytes bytes fits = omega (arith, fits 0, fits 1, fits 2, fits 3, fits 4, fits 5, fits 6, fits 7)

pub site_id_fits : (text : List ℕ) (id : ℕ) → site_id_of text ≡ Some id → id < 2 ^ 64
site_id_fits text id e =
    let bytes = option_map-Some (from_be_bytes w64) (result_ok (decode_sized text 8)) id e in
    subst (λ (n : ℕ). n < 2 ^ 64) bytes.2 (eight_bytes bytes.0 (sized text bytes.0 8 bytes.1).1)

pub xtr_fits : (text xtr : List ℕ) → xtr_of text ≡ Some xtr → (length xtr ≡ 16) × AllByRecursion (λ n. n < 256) xtr
xtr_fits text xtr e = let bytes = sized text xtr 16 e in (bytes.0, each_byte xtr bytes.1)

pub secret_fits : (text secret : List ℕ) → secret_text_of text ≡ Some secret → (1 ≤ length secret) × (length secret ≤ 256) × AllByRecursion (λ n. n < 256) secret
secret_fits text secret e =
    let bytes = bind_some (result_ok (decode_of text)) _ secret e in
    let some = cond_some (leb 1 (length bytes.0) && leb (length bytes.0) 256) bytes.0 secret bytes.2 in
    let sizes = and_parts (leb 1 (length bytes.0)) (leb (length bytes.0) 256) some.0 in
    let decoded = decode_of-ok text bytes.0 (result_ok-Some (decode_of text) bytes.0 bytes.1) in
    subst (λ (s : List ℕ). (1 ≤ length s) × (length s ≤ 256) × AllByRecursion (λ n. n < 256) s) some.1 (leb-true 1 (length bytes.0) sizes.0, leb-true (length bytes.0) 256 sizes.1, each_byte bytes.0 decoded.3)

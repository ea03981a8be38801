-- Bytes as one number, the highest byte first: what clearing its last bits clears, and how two of them stand.
use Rattle.std.proofs.Common.{◌≡◌, ℕ, zero, suc, ◌+◌, ◌-◌, ◌*◌, ◌/◌, ◌%◌, ◌^◌, ◌<◌, ◌≤◌, List, [], ◌∷◌, length, min, refl, sym, ap, subst, ◌∙◌, add-one, arith}
use Rattle.std.proofs.Math.Nat.{div-div-eq-div-mul, div-one, mul_assoc, mul_comm}
use Rattle.std.specs.Int.{w32, w128, from_be_bytes, to_be_bytes, byte_at, bytes_high_first}
use Rattle.std.specs.List.{AllByRecursion}
use Rattle.std.specs.Cmp.{ranks, nat_cmp_is}
use Rattle.std.specs.Cmp.Lexicographic.{slice_cmp}
use Rattle.std.specs.Slice.Scan.{big_endian}
use Rattle.std.specs.Ordering.{nat_cmp, ordering_then, MatchOrdering}
use Rattle.std.specs.declared.cmp.Ordering.{Ordering}
use Rattle.std.specs.declared.cmp.Ordering.TheVariants.{Less, Equal, Greater}
use Rattle.std.specs.Prelude.{nat_eq}
use Rattle.std.specs.Str.{bytes_eq}
use Rattle.std.specs.Ordering.{is_eq}
use Rattle.std.proofs.lemmas.Bool.{eq-eqb, ne_eqb}
use Rattle.std.proofs.lemmas.Map.Text.{is_eq-slice_cmp}
use Rattle.std.proofs.lemmas.Nat.{pow-add}
use Rattle.lisp_records.specs.Address.{high_bits, masked}
use Rattle.lisp_records.proofs.AddressLemmas.{length-masked, masked-bytes}

abbrev Bytes : List ℕ → Type 0
Bytes = AllByRecursion (λ n. n < 256)

-- four bytes, and sixteen
pub four : (bytes : List ℕ) → length bytes ≡ 4 → from_be_bytes w32 bytes ≡ big_endian 0 bytes
four (a ∷ b ∷ c ∷ d ∷ []) sized = omega arith
four _ sized = absurd (omega (arith, sized))

pub sixteen : (bytes : List ℕ) → length bytes ≡ 16 → from_be_bytes w128 bytes ≡ big_endian 0 bytes
sixteen (a ∷ b ∷ c ∷ d ∷ e ∷ f ∷ g ∷ h ∷ i ∷ j ∷ k ∷ l ∷ m ∷ n ∷ o ∷ p ∷ []) sized = omega arith
sixteen _ sized = absurd (omega (arith, sized))

-- one byte more
one_more : (k : ℕ) → 256 ^ suc k ≡ 256 ^ k * 256
one_more k = ap (λ n. 256 ^ n) (sym (add-one k)) ∙ pow-add 256 k 1

-- what stands before so many bytes
before : (a : ℕ) (bytes : List ℕ) → Bytes bytes → big_endian a bytes / 256 ^ length bytes ≡ a
before a [] fit = div-one a
before a (b ∷ bytes) fit =
    let small : b < 256 = fit.0 in
    rw (one_more (length bytes), ← div-div-eq-div-mul (big_endian (a * 256 + b) bytes) (256 ^ length bytes) 256, before (a * 256 + b) bytes fit.1) (omega (arith, small))

-- a number's bytes are those that spell it
pub spelt : (a : ℕ) (bytes : List ℕ) → Bytes bytes → bytes_high_first (length bytes) (big_endian a bytes) ≡ bytes
spelt a [] fit = refl
spelt a (b ∷ bytes) fit = rw (first (length bytes) (big_endian (a * 256 + b) bytes), spelt (a * 256 + b) bytes fit.1, before (a * 256 + b) bytes fit.1) (ap (λ n. n ∷ bytes) (let small : b < 256 = fit.0 in omega (arith, small)))
  where
    first : (k n : ℕ) → byte_at k n ≡ n / 256 ^ k % 256
    first zero n = rw div-one refl
    first (suc k) n = refl

-- no bit of the bytes is left
none_left : (a : ℕ) (bytes : List ℕ) → Bytes bytes → big_endian a (masked bytes 0) ≡ a * 256 ^ length bytes
unfolding masked
none_left a [] fit = omega arith
none_left a (b ∷ bytes) fit =
    let small : b < 256 = fit.0 in
    let none : a * 256 + high_bits b (min 0 8) ≡ a * 256 = omega (arith, small) in
    ap (λ c. big_endian c (masked bytes 0)) none ∙ none_left (a * 256) bytes fit.1 ∙ mul_assoc a 256 (256 ^ length bytes) ∙ ap (λ m. a * m) (mul_comm 256 (256 ^ length bytes) ∙ sym (one_more (length bytes)))

-- clearing bits of the last byte clears those of the number
last_byte : (a b kept : ℕ) → kept < 8 → (a * 256 + b) / 2 ^ (8 - kept) * 2 ^ (8 - kept) ≡ a * 256 + high_bits b kept
last_byte a b zero less = omega arith
last_byte a b (suc zero) less = omega arith
last_byte a b (suc (suc zero)) less = omega arith
last_byte a b (suc (suc (suc zero))) less = omega arith
last_byte a b (suc (suc (suc (suc zero)))) less = omega arith
last_byte a b (suc (suc (suc (suc (suc zero))))) less = omega arith
last_byte a b (suc (suc (suc (suc (suc (suc zero)))))) less = omega arith
last_byte a b (suc (suc (suc (suc (suc (suc (suc zero))))))) less = omega arith
last_byte a b (suc (suc (suc (suc (suc (suc (suc (suc kept)))))))) less = absurd (omega (arith, less))

-- so many bytes have eight bits each
all_bits : (k : ℕ) → 2 ^ (8 * k) ≡ 256 ^ k
all_bits zero = refl
all_bits (suc k) =
    let more : 8 * suc k ≡ 8 + 8 * k = omega arith in
    rw (more, pow-add 2 8 (8 * k), all_bits k) (mul_comm 256 (256 ^ k) ∙ sym (one_more k))

-- the first eight bits of a byte are the byte
whole_byte : (byte : ℕ) → high_bits byte 8 ≡ byte
whole_byte byte = omega (arith, div-one byte)

-- clearing the last bits of bytes clears those of the number
pub cleared_number : (a : ℕ) (bytes : List ℕ) (kept : ℕ) → Bytes bytes → big_endian a bytes / 2 ^ (8 * length bytes - kept) * 2 ^ (8 * length bytes - kept) ≡ big_endian a (masked bytes kept)
unfolding masked
cleared_number a [] kept fit =
    let none : 8 * length {A = ℕ} [] - kept ≡ 0 = omega arith in
    rw none (omega (arith, div-one a))
cleared_number a (b ∷ bytes) kept fit = by (nat_cmp kept 8) (ranks kept 8) (cleared_number (a * 256 + b) bytes (kept - 8) fit.1)
  where
    Cleared : ℕ → ℕ → Type 0
    Cleared bits c = big_endian (a * 256 + b) bytes / 2 ^ bits * 2 ^ bits ≡ big_endian c (masked bytes (kept - 8))

    few : kept < 8 → Cleared (8 * suc (length bytes) - kept) (a * 256 + high_bits b (min kept 8))
    few less =
        let all = 256 ^ length bytes in
        let past = 2 ^ (8 - kept) in
        let bits : 8 * suc (length bytes) - kept ≡ 8 * length bytes + (8 - kept) = omega (arith, less) in
        let size : 2 ^ (8 * suc (length bytes) - kept) ≡ all * past = rw (bits, pow-add 2 (8 * length bytes) (8 - kept), all_bits (length bytes)) refl in
        let here : min kept 8 ≡ kept = omega (arith, less) in
        let none : kept - 8 ≡ 0 = omega (arith, less) in
        let turned : (a * 256 + b) / past * (all * past) ≡ (a * 256 + b) / past * past * all = ap (λ n. (a * 256 + b) / past * n) (mul_comm all past) ∙ sym (mul_assoc ((a * 256 + b) / past) past all) in
        rw (size, ← div-div-eq-div-mul (big_endian (a * 256 + b) bytes) all past, before (a * 256 + b) bytes fit.1, turned, last_byte a b kept less, here, none, none_left (a * 256 + high_bits b kept) bytes fit.1) refl

    many : 8 ≤ kept → Cleared (8 * length bytes - (kept - 8)) (a * 256 + b) → Cleared (8 * suc (length bytes) - kept) (a * 256 + high_bits b (min kept 8))
    many le rest =
        let bits : 8 * suc (length bytes) - kept ≡ 8 * length bytes - (kept - 8) = omega (arith, le) in
        let here : min kept 8 ≡ 8 = omega (arith, le) in
        rw (bits, here, whole_byte b) rest

    by : (order : Ordering) → MatchOrdering order (kept < 8) (kept ≡ 8) (8 < kept) → Cleared (8 * length bytes - (kept - 8)) (a * 256 + b) → Cleared (8 * suc (length bytes) - kept) (a * 256 + high_bits b (min kept 8))
    by Less lies rest = few lies
    by Equal lies rest = let level : kept ≡ 8 = lies in many (omega (arith, level)) rest
    by Greater lies rest = let more : 8 < kept = lies in many (omega (arith, more)) rest

-- a lesser number stays less, whatever bytes follow
stays_less : (a b : ℕ) (us vs : List ℕ) → length us ≡ length vs → Bytes us → a < b → big_endian a us < big_endian b vs
stays_less a b [] [] same fit less = less
stays_less a b (u ∷ us) (v ∷ vs) same fit less =
    let small : u < 256 = fit.0 in
    stays_less (a * 256 + u) (b * 256 + v) us vs (omega (arith, same)) fit.1 (omega (arith, less, small))
stays_less a b _ _ same fit less = absurd (omega (arith, same))

-- bytes stand as the numbers do
pub in_order : (a : ℕ) (us vs : List ℕ) → length us ≡ length vs → Bytes us → Bytes vs → nat_cmp (big_endian a us) (big_endian a vs) ≡ slice_cmp nat_cmp us vs
in_order a [] [] same left right = sym (nat_cmp_is a a Equal refl)
in_order a [] (v ∷ vs) same left right = absurd (omega (arith, same))
in_order a (u ∷ us) [] same left right = absurd (omega (arith, same))
in_order a (u ∷ us) (v ∷ vs) same left right = by (nat_cmp u v) (ranks u v) (in_order (a * 256 + u) us vs (omega (arith, same)) left.1 right.1)
  where
    by : (order : Ordering) → MatchOrdering order (u < v) (u ≡ v) (v < u) → nat_cmp (big_endian (a * 256 + u) us) (big_endian (a * 256 + u) vs) ≡ slice_cmp nat_cmp us vs
        → nat_cmp (big_endian (a * 256 + u) us) (big_endian (a * 256 + v) vs) ≡ ordering_then order (slice_cmp nat_cmp us vs)
    by Less lies rest =
        let less : u < v = lies in
        sym (nat_cmp_is _ _ Less (stays_less (a * 256 + u) (a * 256 + v) us vs (omega (arith, same)) left.1 (omega (arith, less))))
    by Greater lies rest =
        let less : v < u = lies in
        sym (nat_cmp_is _ _ Greater (stays_less (a * 256 + v) (a * 256 + u) vs us (omega (arith, same)) right.1 (omega (arith, less))))
    by Equal lies rest =
        let level : u ≡ v = lies in
        subst (λ n. nat_cmp (big_endian (a * 256 + u) us) (big_endian (a * 256 + n) vs) ≡ slice_cmp nat_cmp us vs) level rest

-- as equal as the numbers are
alike : (us vs : List ℕ) → length us ≡ length vs → Bytes us → Bytes vs → nat_eq (big_endian 0 us) (big_endian 0 vs) ≡ bytes_eq us vs
alike us vs same left right = by _ _ _ (ranks (big_endian 0 us) (big_endian 0 vs)) refl ∙ ap is_eq (in_order 0 us vs same left right) ∙ is_eq-slice_cmp us vs
  where
    by : (x y : ℕ) (order : Ordering) → MatchOrdering order (x < y) (x ≡ y) (y < x) → order ≡ nat_cmp x y → nat_eq x y ≡ is_eq order
    by x y Less lies is = let less : x < y = lies in ne_eqb x y (λ e. omega (arith, less, e))
    by x y Equal lies is = let level : x ≡ y = lies in eq-eqb x y level
    by x y Greater lies is = let less : y < x = lies in ne_eqb x y (λ e. omega (arith, less, e))

-- the first bits of an address as a number: of four bytes, and of sixteen
first_of_four : (bytes : List ℕ) (number kept : ℕ) → length bytes ≡ 4 → Bytes bytes → number ≡ from_be_bytes w32 bytes / 2 ^ (32 - kept) * 2 ^ (32 - kept) → number ≡ big_endian 0 (masked bytes kept)
first_of_four bytes number kept sized fit is =
    let bits : 8 * length bytes - kept ≡ 32 - kept = omega (arith, sized) in
    rw (is, four bytes sized) (rw bits at (cleared_number 0 bytes kept fit))

first_of_sixteen : (bytes : List ℕ) (number kept : ℕ) → length bytes ≡ 16 → Bytes bytes → number ≡ from_be_bytes w128 bytes / 2 ^ (128 - kept) * 2 ^ (128 - kept) → number ≡ big_endian 0 (masked bytes kept)
first_of_sixteen bytes number kept sized fit is =
    let bits : 8 * length bytes - kept ≡ 128 - kept = omega (arith, sized) in
    rw (is, sixteen bytes sized) (rw bits at (cleared_number 0 bytes kept fit))

-- written as bytes again
pub cleared_four : (bytes : List ℕ) (number kept : ℕ) → length bytes ≡ 4 → Bytes bytes → number ≡ from_be_bytes w32 bytes / 2 ^ (32 - kept) * 2 ^ (32 - kept) → to_be_bytes w32 number ≡ masked bytes kept
cleared_four bytes number kept sized fit is =
    let size : length (masked bytes kept) ≡ 4 = length-masked bytes kept ∙ sized in
    rw (first_of_four bytes number kept sized fit is) (rw size at (spelt 0 (masked bytes kept) (masked-bytes bytes kept fit)))

pub cleared_sixteen : (bytes : List ℕ) (number kept : ℕ) → length bytes ≡ 16 → Bytes bytes → number ≡ from_be_bytes w128 bytes / 2 ^ (128 - kept) * 2 ^ (128 - kept) → to_be_bytes w128 number ≡ masked bytes kept
cleared_sixteen bytes number kept sized fit is =
    let size : length (masked bytes kept) ≡ 16 = length-masked bytes kept ∙ sized in
    rw (first_of_sixteen bytes number kept sized fit is) (rw size at (spelt 0 (masked bytes kept) (masked-bytes bytes kept fit)))

-- compared with the first address of a block
pub in_four : (bytes first : List ℕ) (number kept : ℕ) → length bytes ≡ 4 → Bytes bytes → length first ≡ 4 → Bytes first → number ≡ from_be_bytes w32 bytes / 2 ^ (32 - kept) * 2 ^ (32 - kept) → nat_eq number (from_be_bytes w32 first) ≡ bytes_eq (masked bytes kept) first
in_four bytes first number kept sized fit first-sized first-fit is =
    rw (first_of_four bytes number kept sized fit is, four first first-sized) (alike (masked bytes kept) first (length-masked bytes kept ∙ sized ∙ sym first-sized) (masked-bytes bytes kept fit) first-fit)

pub in_sixteen : (bytes first : List ℕ) (number kept : ℕ) → length bytes ≡ 16 → Bytes bytes → length first ≡ 16 → Bytes first → number ≡ from_be_bytes w128 bytes / 2 ^ (128 - kept) * 2 ^ (128 - kept) → nat_eq number (from_be_bytes w128 first) ≡ bytes_eq (masked bytes kept) first
in_sixteen bytes first number kept sized fit first-sized first-fit is =
    rw (first_of_sixteen bytes number kept sized fit is, sixteen first first-sized) (alike (masked bytes kept) first (length-masked bytes kept ∙ sized ∙ sym first-sized) (masked-bytes bytes kept fit) first-fit)

-- and how two of them stand
pub four_in_order : (us vs : List ℕ) → length us ≡ 4 → length vs ≡ 4 → Bytes us → Bytes vs → nat_cmp (from_be_bytes w32 us) (from_be_bytes w32 vs) ≡ slice_cmp nat_cmp us vs
four_in_order us vs first second left right = rw (four us first, four vs second) (in_order 0 us vs (first ∙ sym second) left right)

pub sixteen_in_order : (us vs : List ℕ) → length us ≡ 16 → length vs ≡ 16 → Bytes us → Bytes vs → nat_cmp (from_be_bytes w128 us) (from_be_bytes w128 vs) ≡ slice_cmp nat_cmp us vs
sixteen_in_order us vs first second left right = rw (sixteen us first, sixteen vs second) (in_order 0 us vs (first ∙ sym second) left right)

-- and whether they are alike
pub sixteen_alike : (us vs : List ℕ) → length us ≡ 16 → length vs ≡ 16 → Bytes us → Bytes vs → nat_eq (from_be_bytes w128 us) (from_be_bytes w128 vs) ≡ bytes_eq us vs
sixteen_alike us vs first second left right = rw (sixteen us first, sixteen vs second) (alike us vs (first ∙ sym second) left right)

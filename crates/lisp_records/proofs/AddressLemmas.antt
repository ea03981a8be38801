-- Clearing the bits of an address past a mask: twice is once, and it keeps family and length.
use Rattle.std.proofs.Common.{◌≡◌, ℕ, ◌+◌, ◌-◌, ◌*◌, ◌/◌, ◌^◌, ◌<◌, ◌≤◌, List, [], ◌∷◌, length, min, refl, sym, ap, subst, ◌∙◌, arith}
use Rattle.std.proofs.Math.Nat.{div-div-eq-div-mul}
use Rattle.std.specs.List.{AllByRecursion}
use Rattle.std.proofs.lemmas.Nat.{shl-shr, shr_split, pow-add}
use Rattle.lisp_records.specs.declared.address.Addr.{Addr}
use Rattle.lisp_records.specs.declared.address.Addr.TheVariants.{V4, V6}
use Rattle.lisp_records.specs.declared.address.Family.{Family}
use Rattle.lisp_records.specs.Address.{width, family, IsWhole, max_len, high_bits, masked, cleared, PrefixValue, IsPrefix, Covers, Holds}

-- clearing a byte's last bits twice is clearing them once
pub high_bits-again : (byte k : ℕ) → high_bits (high_bits byte k) k ≡ high_bits byte k
high_bits-again byte k = ap (λ (n : ℕ). n * 2 ^ (8 - k)) (shl-shr (byte / 2 ^ (8 - k)) (8 - k))

-- clearing the bits past a mask twice is clearing them once
pub masked-again : (bytes : List ℕ) (n : ℕ) → masked (masked bytes n) n ≡ masked bytes n
unfolding masked
masked-again [] n = refl
masked-again (byte ∷ bytes) n = rw (high_bits-again byte (min n 8), masked-again bytes (n - 8)) refl

-- clearing bits keeps the number of bytes
pub length-masked : (bytes : List ℕ) (n : ℕ) → length (masked bytes n) ≡ length bytes
unfolding masked
length-masked [] n = refl
length-masked (byte ∷ bytes) n = rw (length-masked bytes (n - 8)) refl

-- clearing an address's bits past a mask twice is clearing them once
pub cleared-again : (a : Addr) (n : ℕ) → cleared (cleared a n) n ≡ cleared a n
cleared-again (V4 bytes) n = ap V4 (masked-again bytes n)
cleared-again (V6 bytes) n = ap V6 (masked-again bytes n)

-- clearing bits keeps the family
pub family-cleared : (a : Addr) (n : ℕ) → family (cleared a n) ≡ family a
family-cleared a n = grind arith

-- a byte with bits cleared is no greater
high_bits-le : (byte k : ℕ) → high_bits byte k ≤ byte
high_bits-le byte k = omega (arith, shr_split byte (8 - k))

-- a mask that fits a cleared address fits the address
pub fits-cleared : (a : Addr) (n : ℕ) → n ≤ max_len (cleared a n) → n ≤ max_len a
fits-cleared a n fits = subst (λ (f : Family). n ≤ 8 * width f) (family-cleared a n) fits

-- bytes with bits cleared are bytes
pub masked-bytes : (bytes : List ℕ) (n : ℕ) → AllByRecursion (λ b. b < 256) bytes → AllByRecursion (λ b. b < 256) (masked bytes n)
unfolding masked
masked-bytes [] n all = tt
masked-bytes (byte ∷ bytes) n all = (omega (arith, all.0, high_bits-le byte (min n 8)), masked-bytes bytes (n - 8) all.1)

-- an address with bits cleared is still whole
pub IsWhole-cleared : (a : Addr) (n : ℕ) → IsWhole a → IsWhole (cleared a n)
IsWhole-cleared (V4 bytes) n whole = record { width = length-masked bytes n ∙ whole.width; bytes = masked-bytes bytes n whole.bytes }
IsWhole-cleared (V6 bytes) n whole = record { width = length-masked bytes n ∙ whole.width; bytes = masked-bytes bytes n whole.bytes }

-- an address cleared past a mask that fits it is a block with that mask
pub IsBlock-cleared : (a : Addr) (n : ℕ) → n ≤ max_len a → IsPrefix (record { addr = cleared a n; mask_len = n })
IsBlock-cleared (V4 bytes) n fits = (fits, cleared-again (V4 bytes) n)
IsBlock-cleared (V6 bytes) n fits = (fits, cleared-again (V6 bytes) n)

-- clearing a byte's last bits after fewer of them is clearing the more
pub high_bits-wider : (byte k j : ℕ) → j ≤ k → k ≤ 8 → high_bits (high_bits byte k) j ≡ high_bits byte j
high_bits-wider byte k j le fits =
    let more : 8 - j ≡ (8 - k) + (k - j) = omega arith in
    let parts : 2 ^ (8 - j) ≡ 2 ^ (8 - k) * 2 ^ (k - j) = ap (λ (n : ℕ). 2 ^ n) more ∙ pow-add 2 (8 - k) (k - j) in
    let kept : byte / 2 ^ (8 - k) * 2 ^ (8 - k) / 2 ^ (8 - j) ≡ byte / 2 ^ (8 - j) =
    rw (parts, ← div-div-eq-div-mul (byte / 2 ^ (8 - k) * 2 ^ (8 - k)) (2 ^ (8 - k)) (2 ^ (k - j)), ← div-div-eq-div-mul byte (2 ^ (8 - k)) (2 ^ (k - j)), shl-shr (byte / 2 ^ (8 - k)) (8 - k)) refl in
    ap (λ (n : ℕ). n * 2 ^ (8 - j)) kept

-- clearing the bits past a mask, after those past a longer one
pub masked-wider : (bytes : List ℕ) (n m : ℕ) → m ≤ n → masked (masked bytes n) m ≡ masked bytes m
unfolding masked
masked-wider [] n m le = refl
masked-wider (byte ∷ bytes) n m le = rw (high_bits-wider byte (min n 8) (min m 8) (omega arith) (omega arith), masked-wider bytes (n - 8) (m - 8) (omega arith)) refl

-- clearing an address's bits past a mask, after those past a longer one
pub cleared-wider : (a : Addr) (n m : ℕ) → m ≤ n → cleared (cleared a n) m ≡ cleared a m
cleared-wider (V4 bytes) n m le = ap V4 (masked-wider bytes n m le)
cleared-wider (V6 bytes) n m le = ap V6 (masked-wider bytes n m le)

-- what a covered block holds, the covering one holds
pub covers_holds : (b c : PrefixValue) (a : Addr) → Covers b c → Holds c a → Holds b a
covers_holds b c a covers holds = sym (cleared-wider a c.mask_len b.mask_len covers.0) ∙ ap (λ (x : Addr). cleared x b.mask_len) holds ∙ covers.1

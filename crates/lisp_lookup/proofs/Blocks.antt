-- Blocks of addresses in the order of prefixes: those inside one are a run.
use Rattle.std.proofs.Common.{◌≡◌, ◌≢◌, ◌⊎◌, inl, inr, ℕ, ◌-◌, ◌*◌, ◌/◌, ◌^◌, ◌<◌, ◌≤◌, ◌==◌, true, nat_le, nat_lt, List, [], ◌∷◌, length, min, refl, sym, ap, ◌∙◌, subst, arith}
use Rattle.std.proofs.lemmas.Bool.{and_from, and_parts, cases_lt, le-leb, leb-true}
use Rattle.std.proofs.lemmas.Bool.Decides.{Decides-and, Decides-ltb, nat_tests}
use Rattle.std.specs.Bool.{Decides}
use Rattle.std.proofs.lemmas.Nat.{shr_split, le-div, pow_pos}
use Rattle.std.proofs.Math.Nat.{div-mul-le_self, mul-le-mul_right}
use Rattle.std.specs.Cmp.Lexicographic.{slice_cmp}
use Rattle.std.specs.List.{AllByRecursion}
use Rattle.std.specs.Ordering.{nat_cmp, ordering_then}
use Rattle.std.specs.declared.cmp.Ordering.{Ordering}
use Rattle.std.specs.declared.cmp.Ordering.TheVariants.{Greater}
use Rattle.lisp_records.specs.declared.address.Addr.{Addr}
use Rattle.lisp_records.specs.declared.address.Addr.TheVariants.{V4, V6}
use Rattle.lisp_records.specs.Address.{IsWhole, PrefixValue, addr_cmp, addr_eq, cleared, covers, high_bits, holds, masked, max_len, octets, prefix_around}
use Rattle.lisp_records.proofs.DatabaseLaws.{block_eq-Decides}
use Rattle.lisp_records.proofs.AddressLemmas.{cleared-wider, high_bits-again, masked-again}
use Rattle.lisp_lookup.specs.Inside.{is_inside}

-- a mask over all bits clears none
high_bits-whole : (byte k : ℕ) → 8 ≤ k → high_bits byte (min k 8) ≡ byte
high_bits-whole byte k long =
    let all : min k 8 ≡ 8 = omega (arith, long) in
    let none_lost : high_bits byte 8 ≡ byte = omega (arith, shr_split byte 0) in
    ap (high_bits byte) all ∙ none_lost

masked-whole : (bytes : List ℕ) (n : ℕ) → 8 * length bytes ≤ n → masked bytes n ≡ bytes
unfolding masked
masked-whole [] n long = refl
masked-whole (byte ∷ bytes) n long = rw (high_bits-whole byte n (omega (arith, long)), masked-whole bytes (n - 8) (omega (arith, long))) refl

pub cleared-whole : (a : Addr) → IsWhole a → cleared a (max_len a) ≡ a
cleared-whole (V4 bytes) whole = ap V4 (masked-whole bytes 32 (omega (arith, whole.width)))
cleared-whole (V6 bytes) whole = ap V6 (masked-whole bytes 128 (omega (arith, whole.width)))

-- ---- in the order of prefixes

-- numbers in order
pub first_in_order : (a b : ℕ) (rest : Ordering) → ordering_then (nat_cmp a b) rest ≢ Greater → (a ≤ b) × (a ≡ b → rest ≢ Greater)
first_in_order a b rest above = (grind (arith, nat_tests), λ same is. grind (arith, nat_tests))

-- a greater byte has no lesser first bits
high_bits-rises : (a b k : ℕ) → a ≤ b → high_bits a k ≤ high_bits b k
high_bits-rises a b k le =
    let part = le-div (a / 2 ^ (8 - k)) b (2 ^ (8 - k)) (pow_pos (8 - k)) (omega (arith, div-mul-le_self a (2 ^ (8 - k)), le)) in
    mul-le-mul_right (2 ^ (8 - k)) part

-- a mask over no bit clears all
none_alike : (xs ys : List ℕ) → length xs ≡ length ys → AllByRecursion (λ b. b < 256) xs → AllByRecursion (λ b. b < 256) ys → masked xs 0 ≡ masked ys 0
unfolding masked
none_alike [] [] long xs_bytes ys_bytes = refl
none_alike (x ∷ xs) (y ∷ ys) long xs_bytes ys_bytes = rw (none x xs_bytes.0, none y ys_bytes.0, none_alike xs ys (omega (arith, long)) xs_bytes.1 ys_bytes.1) refl
  where
    none : (b : ℕ) → b < 256 → high_bits b (min 0 8) ≡ 0
    none b byte = omega (arith, byte)
none_alike _ _ long xs_bytes ys_bytes = absurd (omega (arith, long))

-- what lies between the first bytes of a block and bytes in it is in it
masked-between : (first x last : List ℕ) (n : ℕ) → length first ≡ length x → AllByRecursion (λ b. b < 256) first → AllByRecursion (λ b. b < 256) x → masked last n ≡ first → slice_cmp nat_cmp first x ≢ Greater → slice_cmp nat_cmp x last ≢ Greater → masked x n ≡ first
unfolding masked
masked-between [] [] last n long first_bytes x_bytes block low high = refl
masked-between (f ∷ fs) (x ∷ xs) [] n long first_bytes x_bytes block low high = absurd cc
masked-between (f ∷ fs) (x ∷ xs) (l ∷ ls) n long first_bytes x_bytes block low high = either (cases_lt n 8) (λ low high. masked-between fs xs ls (n - 8) (omega (arith, long)) first_bytes.1 x_bytes.1 tail low high)
  where
    head : high_bits l (min n 8) ≡ f
    head = cc

    tail : masked ls (n - 8) ≡ fs
    tail = cc

    below : (f ≤ x) × (f ≡ x → slice_cmp nat_cmp fs xs ≢ Greater)
    below = first_in_order f x (slice_cmp nat_cmp fs xs) low

    above : (x ≤ l) × (x ≡ l → slice_cmp nat_cmp xs ls ≢ Greater)
    above = first_in_order x l (slice_cmp nat_cmp xs ls) high

    same : high_bits x (min n 8) ≡ f
    same =
        let own : high_bits f (min n 8) ≡ f = ap (λ (b : ℕ). high_bits b (min n 8)) (sym head) ∙ high_bits-again l (min n 8) ∙ head in
        omega (arith, own, head, high_bits-rises f x (min n 8) below.0, high_bits-rises x l (min n 8) above.0)

    rest : masked xs (n - 8) ≡ fs → masked (x ∷ xs) n ≡ f ∷ fs
    rest is = rw (same, is) refl

    either : (n < 8) ⊎ (8 ≤ n) → (slice_cmp nat_cmp fs xs ≢ Greater → slice_cmp nat_cmp xs ls ≢ Greater → masked xs (n - 8) ≡ fs) → masked (x ∷ xs) n ≡ f ∷ fs
    either (inl few) further =
        let none : n - 8 ≡ 0 = omega (arith, few) in
        let its : masked fs 0 ≡ fs = ap (λ (bs : List ℕ). masked bs 0) (sym tail ∙ ap (masked ls) none) ∙ masked-again ls 0 ∙ ap (masked ls) (sym none) ∙ tail in
        rest (ap (masked xs) none ∙ none_alike xs fs (omega (arith, long)) x_bytes.1 first_bytes.1 ∙ its)
    either (inr many) further =
        let l_is : l ≡ f = sym (high_bits-whole l n many) ∙ head in
        let x_is : x ≡ f = sym (high_bits-whole x n many) ∙ same in
        rest (further (below.1 (sym x_is)) (above.1 (x_is ∙ sym l_is)))
masked-between _ _ last n long first_bytes x_bytes block low high = absurd (omega (arith, long))

-- an address between the first address of a block and one in it is in it
pub cleared-between : (first x last : Addr) (n : ℕ) → IsWhole first → IsWhole x → cleared last n ≡ first → addr_cmp first x ≢ Greater → addr_cmp x last ≢ Greater → cleared x n ≡ first
cleared-between (V4 f) (V4 x) (V4 l) n first_whole x_whole block low high = ap V4 (masked-between f x l n (first_whole.width ∙ sym x_whole.width) first_whole.bytes x_whole.bytes (ap octets block) low high)
cleared-between (V6 f) (V6 x) (V6 l) n first_whole x_whole block low high = ap V6 (masked-between f x l n (first_whole.width ∙ sym x_whole.width) first_whole.bytes x_whole.bytes (ap octets block) low high)
cleared-between (V4 f) (V6 x) (V4 l) n first_whole x_whole block low high = absurd (high refl)
cleared-between (V6 f) (V4 x) last n first_whole x_whole block low high = absurd (low refl)
cleared-between (V4 f) x (V6 l) n first_whole x_whole block low high = absurd cc
cleared-between (V6 f) x (V4 l) n first_whole x_whole block low high = absurd cc

-- an address with bits cleared doesn't stand behind it
pub at_most_first : (a b : ℕ) (rest : Ordering) → a ≤ b → rest ≢ Greater → ordering_then (nat_cmp a b) rest ≢ Greater
at_most_first a b rest le low above = grind (arith, nat_tests)

high_bits-at_most : (byte k : ℕ) → high_bits byte k ≤ byte
high_bits-at_most byte k = div-mul-le_self byte (2 ^ (8 - k))

masked-at_most : (xs : List ℕ) (n : ℕ) → slice_cmp nat_cmp (masked xs n) xs ≢ Greater
unfolding masked
masked-at_most [] n above = absurd cc
masked-at_most (x ∷ xs) n above = at_most_first (high_bits x (min n 8)) x (slice_cmp nat_cmp (masked xs (n - 8)) xs) (high_bits-at_most x (min n 8)) (masked-at_most xs (n - 8)) above

pub at_most_cleared : (a first : Addr) (n : ℕ) → cleared a n ≡ first → addr_cmp first a ≢ Greater
at_most_cleared (V4 bytes) first n is = subst (λ (f : Addr). addr_cmp f (V4 bytes) ≢ Greater) is (masked-at_most bytes n)
at_most_cleared (V6 bytes) first n is = subst (λ (f : Addr). addr_cmp f (V6 bytes) ≢ Greater) is (masked-at_most bytes n)

-- the test of addresses, by that of blocks
abbrev all_of : Addr → PrefixValue
all_of a = record { addr = a; mask_len = 0 }

pub addr_is : (a b : Addr) → addr_eq a b ≡ true → a ≡ b
addr_is a b same = ap (λ (p : PrefixValue). p.addr) ((block_eq-Decides (all_of a) (all_of b)).0 (and_from (addr_eq a b) (0 == 0) same refl))

pub is_addr : (a b : Addr) → a ≡ b → addr_eq a b ≡ true
is_addr a b same = (and_parts (addr_eq a b) (0 == 0) ((block_eq-Decides (all_of a) (all_of b)).1 (ap all_of same))).0

-- ---- what a prefix has, covers and has inside

pub holds_is : (eid : PrefixValue) (addr : Addr) → Decides (holds eid addr) (cleared addr eid.mask_len ≡ eid.addr)
holds_is eid addr = (addr_is (cleared addr eid.mask_len) eid.addr, is_addr (cleared addr eid.mask_len) eid.addr)

pub covers_is : (one other : PrefixValue) → Decides (covers one other) ((one.mask_len ≤ other.mask_len) × (cleared other.addr one.mask_len ≡ one.addr))
covers_is one other = Decides-and (nat_le one.mask_len other.mask_len) (holds one other.addr) (leb-true one.mask_len other.mask_len, le-leb one.mask_len other.mask_len) (holds_is one other.addr)

pub inside_is : (outer eid : PrefixValue) → Decides (is_inside outer eid) (((outer.mask_len ≤ eid.mask_len) × (cleared eid.addr outer.mask_len ≡ outer.addr)) × (outer.mask_len < eid.mask_len))
inside_is outer eid = Decides-and (covers outer eid) (nat_lt outer.mask_len eid.mask_len) (covers_is outer eid) (Decides-ltb outer.mask_len eid.mask_len)

-- of two prefixes that have an address the longer lies in the shorter
pub nested : (one other : PrefixValue) (addr : Addr) → holds one addr ≡ true → holds other addr ≡ true → one.mask_len ≤ other.mask_len → covers one other ≡ true
nested one other addr has_one has_other le = (covers_is one other).1 (le, ap (λ (a : Addr). cleared a one.mask_len) (sym ((holds_is other addr).0 has_other)) ∙ cleared-wider addr other.mask_len one.mask_len le ∙ (holds_is one addr).0 has_one)

-- what one has that lies in another the other has
pub has_wider : (one other : PrefixValue) (addr : Addr) → covers one other ≡ true → holds other addr ≡ true → holds one addr ≡ true
has_wider one other addr covered has =
    let (low, block) = (covers_is one other).0 covered in
    (holds_is one addr).1 (sym (cleared-wider addr other.mask_len one.mask_len low) ∙ ap (λ (a : Addr). cleared a one.mask_len) ((holds_is other addr).0 has) ∙ block)

-- one that lies in a second that lies in a third lies in the third
pub covers_through : (one two three : PrefixValue) → covers one two ≡ true → covers two three ≡ true → covers one three ≡ true
covers_through one two three first second =
    let (high, block) = (covers_is two three).0 second in
    (covers_is one three).1 (omega (arith, ((covers_is one two).0 first).0, high), (holds_is one three.addr).0 (has_wider one two three.addr first ((holds_is two three.addr).1 block)))

-- of two prefixes around an address the longer lies in the shorter
pub around_covers : (addr : Addr) (n k : ℕ) → n ≤ k → covers (prefix_around addr n) (prefix_around addr k) ≡ true
around_covers addr n k le = (covers_is (prefix_around addr n) (prefix_around addr k)).1 (le, cleared-wider addr k n le)

-- what lies in a prefix lies in a wider one
pub in_wider : (addr : Addr) (other : PrefixValue) (n m : ℕ) → m ≤ n → covers (prefix_around addr n) other ≡ true → covers (prefix_around addr m) other ≡ true
in_wider addr other n m le = covers_through (prefix_around addr m) (prefix_around addr n) other (around_covers addr m n le)

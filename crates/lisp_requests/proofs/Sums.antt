-- One's complement sums: of words one after the other, in any order, and of bytes that carry their checksum.
use Rattle.std.proofs.Common.{◌≡◌, ℕ, ◌+◌, ◌-◌, ◌*◌, ◌/◌, ◌≤◌, List, [], ◌∷◌, ◌++◌, length, take, drop, refl, sym, ap, ◌∙◌, arith, ◌<◌}
use Rattle.std.specs.List.{AllByRecursion}
use Rattle.std.proofs.lemmas.Bool.Decides.{nat_tests}
use Rattle.std.specs.Int.{w16, from_be_bytes}
use Rattle.lisp_records.specs.declared.address.Addr.{Addr}
use Rattle.lisp_records.specs.declared.address.Family.{Family}
use Rattle.lisp_records.specs.Address.{IsWhole, family, octets, width}
use Rattle.lisp_requests.specs.Checksum.{AreWords, SumsToAllOnes, plus, words, sum_from, udp_checksum_of}

-- one more word is summed
pub word_more : (sum : ℕ) (bytes : List ℕ) → 2 ≤ length bytes → sum_from sum (words bytes) ≡ sum_from (plus sum (from_be_bytes w16 (take 2 bytes))) (words (drop 2 bytes))
unfolding words sum_from
word_more sum (high ∷ low ∷ bytes) long = refl
word_more sum (high ∷ []) long = absurd (omega arith)
word_more sum [] long = absurd (omega arith)

-- words, and then more
pub sum_append : (sum : ℕ) (ws vs : List ℕ) → sum_from sum (ws ++ vs) ≡ sum_from (sum_from sum ws) vs
unfolding sum_from
sum_append sum [] vs = refl
sum_append sum (w ∷ ws) vs = sum_append (plus sum w) ws vs

-- the words of an even number of bytes, and of those after them
pub words_append : (n : ℕ) (front bytes : List ℕ) → length front ≡ 2 * n → words (front ++ bytes) ≡ words front ++ words bytes
unfolding words
words_append n [] bytes even = refl
words_append n (a ∷ []) bytes even = absurd (omega arith)
words_append n (a ∷ b ∷ front) bytes even = ap (λ (ws : List ℕ). (a * 256 + b) ∷ ws) (words_append (n - 1) front bytes (omega arith))

-- bytes are summed part by part, where the first is an even number of them
pub sum_parts : (sum n : ℕ) (front bytes : List ℕ) → length front ≡ 2 * n → sum_from sum (words (front ++ bytes)) ≡ sum_from (sum_from sum (words front)) (words bytes)
sum_parts sum n front bytes even = ap (sum_from sum) (words_append n front bytes even) ∙ sum_append sum (words front) (words bytes)

-- an address is an even number of bytes
even_width : (f : Family) → width f ≡ 2 * (width f / 2)
even_width f = grind arith

-- bytes after two addresses
pub sum_addresses : (sum : ℕ) (source destination : Addr) (bytes : List ℕ) → IsWhole source → IsWhole destination
    → sum_from sum (words (octets source ++ (octets destination ++ bytes))) ≡ sum_from (sum_from (sum_from sum (words (octets source))) (words (octets destination))) (words bytes)
sum_addresses sum source destination bytes one two =
    sum_parts sum (width (family source) / 2) (octets source) (octets destination ++ bytes) (one.width ∙ even_width (family source))
    ∙ sum_parts (sum_from sum (words (octets source))) (width (family destination) / 2) (octets destination) bytes (two.width ∙ even_width (family destination))

-- two addresses after an even number of bytes
pub sum_header : (sum n : ℕ) (head : List ℕ) (source destination : Addr) → length head ≡ 2 * n → IsWhole source
    → sum_from sum (words (head ++ (octets source ++ octets destination))) ≡ sum_from (sum_from (sum_from sum (words head)) (words (octets source))) (words (octets destination))
sum_header sum n head source destination even whole =
    sum_parts sum n head (octets source ++ octets destination) even
    ∙ sum_parts (sum_from sum (words head)) (width (family source) / 2) (octets source) (octets destination) (whole.width ∙ even_width (family source))

-- ---- the order of words doesn't matter

pub plus-fits : (a b : ℕ) → a ≤ 65535 → b ≤ 65535 → plus a b ≤ 65535
plus-fits a b la lb = omega arith

plus-swap : (a b c : ℕ) → a ≤ 65535 → b ≤ 65535 → c ≤ 65535 → plus (plus a b) c ≡ plus (plus a c) b
plus-swap a b c la lb lc = omega arith

pub sum-fits : (sum : ℕ) (ws : List ℕ) → sum ≤ 65535 → AreWords ws → sum_from sum ws ≤ 65535
unfolding sum_from
sum-fits sum [] le all = le
sum-fits sum (w ∷ ws) le all = sum-fits (plus sum w) ws (plus-fits sum w le all.0) all.1

-- a word that is summed first may be summed last
last_word : (sum word : ℕ) (ws : List ℕ) → sum ≤ 65535 → word ≤ 65535 → AreWords ws → sum_from (plus sum word) ws ≡ plus (sum_from sum ws) word
unfolding sum_from
last_word sum word [] le lw all = refl
last_word sum word (w ∷ ws) le lw all = ap (λ (n : ℕ). sum_from n ws) (plus-swap sum word w le lw all.0) ∙ last_word (plus sum w) word ws (plus-fits sum w le all.0) lw all.1

-- words of which one is the checksum, and the same with zero in its place
pub sum_with : (sum word : ℕ) (front back : List ℕ) → sum ≤ 65535 → word ≤ 65535 → AreWords front → AreWords back → sum_from sum (front ++ word ∷ back) ≡ plus (sum_from sum (front ++ 0 ∷ back)) word
unfolding sum_from
sum_with sum word front back le lw one two =
    let so_far = sum_from sum front in
    let fits : so_far ≤ 65535 = sum-fits sum front le one in
    let zero : plus so_far 0 ≡ so_far = omega arith in
    sum_append sum front (word ∷ back) ∙ last_word so_far word back fits lw two
    ∙ ap (λ (n : ℕ). plus n word) (sym (sum_append sum front (0 ∷ back) ∙ ap (λ (n : ℕ). sum_from n back) zero))

-- what carries its checksum sums to all ones
pub checks : (sum : ℕ) → sum ≤ 65535 → plus sum (65535 - sum) ≡ 65535
checks sum le = omega arith

pub udp_checks : (sum : ℕ) → sum ≤ 65535 → plus sum (udp_checksum_of sum) ≡ 65535
udp_checks sum le = grind (arith, nat_tests)

-- each is a byte
abbrev pub AreBytes : List ℕ → Type 0
AreBytes bytes = AllByRecursion (λ n. n < 256) bytes

-- the words of bytes have 16 bits
pub words-fit : (bytes : List ℕ) → AreBytes bytes → AreWords (words bytes)
unfolding words
words-fit [] all = tt
words-fit (a ∷ []) all = (omega (arith, all.0), tt)
words-fit (a ∷ b ∷ bytes) all = (omega (arith, all.0, all.1.0), words-fit bytes all.1.1)

pub bytes-append : (one two : List ℕ) → AreBytes one → AreBytes two → AreBytes (one ++ two)
bytes-append [] two a b = b
bytes-append (n ∷ one) two a b = (a.0, bytes-append one two a.1 b)

-- what carries its checksum sums to all ones, wherever the checksum stands
pub carries : (sum checksum : ℕ) (front back : List ℕ) → sum ≤ 65535 → checksum ≤ 65535 → AreWords front → AreWords back → plus (sum_from sum (front ++ 0 ∷ back)) checksum ≡ 65535 → sum_from sum (front ++ checksum ∷ back) ≡ 65535
carries sum checksum front back le lc one two checked = sum_with sum checksum front back le lc one two ∙ checked

-- the sum without it has 16 bits
pub without-fits : (sum : ℕ) (front back : List ℕ) → sum ≤ 65535 → AreWords front → AreWords back → sum_from sum (front ++ 0 ∷ back) ≤ 65535
without-fits sum front back le one two = rw (sum_append sum front (0 ∷ back)) (sum-fits (sum_from sum front) (0 ∷ back) (sum-fits sum front le one) (omega arith, two))

-- a checksum of UDP has 16 bits, and is not zero
pub udp_checksum-fits : (sum : ℕ) → udp_checksum_of sum ≤ 65535
udp_checksum-fits sum = grind arith

pub udp_checksum-some : (sum : ℕ) → sum ≤ 65535 → udp_checksum_of sum ≡ 0 → ⊥
udp_checksum-some sum le none = grind (arith, nat_tests)

pub checksummed : (front back : List ℕ) → AreWords front → AreWords back → SumsToAllOnes front back
checksummed front back one two =
    let sum : ℕ = sum_from 0 (front ++ 0 ∷ back) in
    carries 0 (65535 - sum) front back (omega arith) (omega arith) one two (checks sum (without-fits 0 front back (omega arith) one two))

-- The checksum of the Internet protocols (RFC 791 section 3.1, RFC 768, RFC 8200 section 8.1).
use Rattle.std.specs.Prelude.{◌≡◌, ◌≤◌, ℕ, ◌+◌, ◌-◌, ◌*◌, ◌/◌, ◌%◌, ◌==◌, List, [], ◌∷◌, ◌++◌, length, if◌then◌else◌}
use Rattle.std.specs.List.{AllByRecursion}
use Rattle.std.specs.Int.{w16, w32, to_be_bytes}
use Rattle.lisp_records.specs.declared.address.Addr.{Addr}
use Rattle.lisp_records.specs.declared.address.Addr.TheVariants.{V4, V6}
use Rattle.lisp_records.specs.Address.{octets}

-- all 16 bits ones
abbrev pub all_ones : ℕ
all_ones = 65535

-- bytes as words of 16 bits, with a zero byte at the end of an odd number of them
unfoldable pub words : List ℕ → List ℕ
words [] = []
words (high ∷ []) = high * 256 ∷ []
words (high ∷ low ∷ bytes) = (high * 256 + low) ∷ words bytes

-- the one's complement sum of two words: the carry out of 16 bits is added in again at the low end
abbrev pub plus : ℕ → ℕ → ℕ
plus a b = (a + b) % 65536 + (a + b) / 65536

-- the one's complement sum of a number and words
unfoldable pub sum_from : ℕ → List ℕ → ℕ
sum_from so_far [] = so_far
sum_from so_far (word ∷ ws) = sum_from (plus so_far word) ws

-- the one's complement sum of bytes
abbrev pub sum_of : List ℕ → ℕ
sum_of bytes = sum_from 0 (words bytes)

-- the checksum of bytes whose checksum field is zero: the one's complement of their sum
abbrev pub checksum_of : ℕ → ℕ
checksum_of sum = all_ones - sum

-- where it would be zero, UDP sends all ones, since zero says that there is no checksum
abbrev pub udp_checksum_of : ℕ → ℕ
udp_checksum_of sum = if sum == all_ones then all_ones else checksum_of sum

-- what goes before a UDP datagram of so many bytes where its checksum is made: IPv4 source and destination, zero, the
-- protocol, the length (RFC 768); IPv6 source and destination, the length in 4 bytes, three zeros, the next header (RFC
-- 8200 section 8.1)
abbrev pub pseudo_end : Addr → ℕ → List ℕ
pseudo_end (V4 _) len = 0 ∷ 17 ∷ to_be_bytes w16 len
pseudo_end (V6 _) len = to_be_bytes w32 len ++ 0 ∷ 0 ∷ 0 ∷ 17 ∷ []

abbrev pub pseudo_header : Addr → Addr → ℕ → List ℕ
pseudo_header source destination len = octets source ++ (octets destination ++ pseudo_end source len)

-- the one's complement sum of a UDP datagram behind its pseudo-header
abbrev pub udp_sum : Addr → Addr → List ℕ → ℕ
udp_sum source destination datagram = sum_from (sum_of (pseudo_header source destination (length datagram))) (words datagram)

-- each word has 16 bits
abbrev pub AreWords : List ℕ → Type 0
AreWords ws = AllByRecursion (λ word. word ≤ all_ones) ws

-- words of which one is the checksum of all, made with zero in its place, sum to all ones
abbrev pub SumsToAllOnes : List ℕ → List ℕ → Type 0
SumsToAllOnes front back = sum_from 0 (front ++ checksum_of (sum_from 0 (front ++ 0 ∷ back)) ∷ back) ≡ all_ones

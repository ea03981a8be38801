-- Addresses, and the blocks of them that an EID-Prefix names (RFC 9301 section 5.4).
use Rattle.std.specs.Prelude.{◌≡◌, ℕ, ◌-◌, ◌*◌, ◌/◌, ◌^◌, ◌<◌, ◌≤◌, nat_le, ◌==◌, Bool, false, ◌&&◌, List, [], ◌∷◌, length, min}
use Rattle.std.specs.List.{AllByRecursion}
use Rattle.std.specs.Str.{bytes_eq}
use Rattle.std.specs.declared.cmp.Ordering.{Ordering}
use Rattle.std.specs.declared.cmp.Ordering.TheVariants.{Less, Greater}
use Rattle.std.specs.Ordering.{nat_cmp, ordering_then}
use Rattle.std.specs.Cmp.Lexicographic.{slice_cmp}
use Rattle.lisp_records.specs.declared.address.Addr.{Addr}
use Rattle.lisp_records.specs.declared.address.Addr.TheVariants.{V4, V6}
use Rattle.lisp_records.specs.declared.address.Family.{Family}
use Rattle.lisp_records.specs.declared.address.Family.TheVariants.{Ipv4, Ipv6}

-- the number of a family in AFI fields
abbrev pub afi : Family → ℕ
afi Ipv4 = 1
afi Ipv6 = 2

-- how many bytes an address of a family has
abbrev pub width : Family → ℕ
width Ipv4 = 4
width Ipv6 = 16

abbrev pub family : Addr → Family
family (V4 _) = Ipv4
family (V6 _) = Ipv6

-- the bytes of an address, the first first
abbrev pub octets : Addr → List ℕ
octets (V4 bytes) = bytes
octets (V6 bytes) = bytes

-- an address has the width of its family
abbrev pub HasWidth : Addr → Type 0
HasWidth a = length (octets a) ≡ width (family a)

-- an address has the octets of its family, each a byte
pub record IsWhole (a : Addr) : Type 0 where
  pub width : HasWidth a
  pub bytes : AllByRecursion (λ n. n < 256) (octets a)

-- the longest mask of an address
abbrev pub max_len : Addr → ℕ
max_len a = 8 * width (family a)

-- a byte with all but its first k bits cleared
abbrev pub high_bits : ℕ → ℕ → ℕ
high_bits byte k = byte / 2 ^ (8 - k) * 2 ^ (8 - k)

-- bytes with all but their first n bits cleared
unfoldable pub masked : List ℕ → ℕ → List ℕ
masked [] n = []
masked (byte ∷ bytes) n = high_bits byte (min n 8) ∷ masked bytes (n - 8)

-- an address with all but its first n bits cleared
abbrev pub cleared : Addr → ℕ → Addr
cleared (V4 bytes) n = V4 (masked bytes n)
cleared (V6 bytes) n = V6 (masked bytes n)

-- a block of addresses: those that share the first mask_len bits of addr
pub record PrefixValue : Type 0 where
  pub addr : Addr
  pub mask_len : ℕ

-- the block of the addresses that share the first n bits of an address
abbrev pub prefix_around : Addr → ℕ → PrefixValue
prefix_around a n = record { addr = cleared a n; mask_len = n }

-- the mask fits the family, and no bit is set past it
abbrev pub IsPrefix : PrefixValue → Type 0
IsPrefix b = (b.mask_len ≤ max_len b.addr) × (cleared b.addr b.mask_len ≡ b.addr)

-- each address of the second block is one of the first
abbrev pub Covers : PrefixValue → PrefixValue → Type 0
Covers b other = (b.mask_len ≤ other.mask_len) × (cleared other.addr b.mask_len ≡ b.addr)

-- the address is one of the block
abbrev pub Holds : PrefixValue → Addr → Type 0
Holds b a = cleared a b.mask_len ≡ b.addr

-- equality, covering and holding as tests
abbrev pub addr_eq : Addr → Addr → Bool
addr_eq (V4 a) (V4 b) = bytes_eq a b
addr_eq (V4 _) (V6 _) = false
addr_eq (V6 _) (V4 _) = false
addr_eq (V6 a) (V6 b) = bytes_eq a b

abbrev pub prefix_eq : PrefixValue → PrefixValue → Bool
prefix_eq a b = addr_eq a.addr b.addr && (a.mask_len == b.mask_len)

abbrev pub covers : PrefixValue → PrefixValue → Bool
covers b other = nat_le b.mask_len other.mask_len && addr_eq (cleared other.addr b.mask_len) b.addr

abbrev pub holds : PrefixValue → Addr → Bool
holds b a = addr_eq (cleared a b.mask_len) b.addr

-- the order of addresses: IPv4 before IPv6, then by the first byte that differs
abbrev pub addr_cmp : Addr → Addr → Ordering
addr_cmp (V4 _) (V6 _) = Less
addr_cmp (V6 _) (V4 _) = Greater
addr_cmp (V4 a) (V4 b) = slice_cmp nat_cmp a b
addr_cmp (V6 a) (V6 b) = slice_cmp nat_cmp a b

-- the order of blocks: by address, then by mask length
abbrev pub prefix_cmp : PrefixValue → PrefixValue → Ordering
prefix_cmp a b = ordering_then (addr_cmp a.addr b.addr) (nat_cmp a.mask_len b.mask_len)

-- IP datagrams that carry UDP: IPv4 (RFC 791), IPv6 (RFC 8200) and UDP (RFC 768).
use Rattle.std.specs.Prelude.{ℕ, zero, suc, ◌+◌, ◌*◌, ◌/◌, ◌%◌, ◌==◌, nat_le, Bool, ◌&&◌, ◌||◌, List, length, take, drop, Result, Ok, Err, slice_index, if◌then◌else◌}
use Rattle.lisp_records.specs.declared.address.Addr.{Addr}
use Rattle.lisp_records.specs.declared.address.Addr.TheVariants.{V4, V6}
use Rattle.lisp_records.specs.Result.{◌>>=◌}
use Rattle.lisp_records.specs.Reading.{number_at}
use Rattle.lisp_captures.specs.declared.datagram.Unread.{Unread}
use Rattle.lisp_captures.specs.declared.datagram.Unread.TheVariants as unread
use Rattle.lisp_captures.specs.Value.{DatagramValue}
use Rattle.lisp_captures.specs.Reading.{after, require}

-- the protocol, or next header, of UDP
abbrev pub udp : ℕ
udp = 17

-- what a UDP datagram carries: its length has the 8 bytes of its header, and is within what is there
unfoldable pub udp_at : Addr → Addr → List ℕ → Result DatagramValue Unread
udp_at source destination payload = do
  _ ← after unread.Damaged 8 payload
  _ ← require unread.Damaged (nat_le 8 (number_at payload 4) && nat_le (number_at payload 4) (length payload))
  Ok (record { source = source; destination = destination; source_port = number_at payload 0; destination_port = number_at payload 2; payload = drop 8 (take (number_at payload 4) payload) })

-- the bytes of an IPv4 header: its IHL counts words of 32 bits
abbrev pub header_len : List ℕ → ℕ
header_len bytes = slice_index bytes 0 % 16 * 4

-- an IPv4 datagram (RFC 791 section 3.1): no fragment; the header fits its total length, and that what is there
unfoldable pub ipv4_at : List ℕ → Result DatagramValue Unread
ipv4_at bytes = do
  _ ← after unread.Cut 20 bytes
  _ ← require unread.Damaged (slice_index bytes 0 / 16 == 4)
  _ ← require unread.Damaged (nat_le 20 (header_len bytes))
  _ ← require unread.Other (slice_index bytes 9 == udp)
  _ ← require unread.Fragment (number_at bytes 6 % 16384 == 0)
  _ ← require unread.Damaged (nat_le (header_len bytes) (number_at bytes 2))
  _ ← require unread.Cut (nat_le (number_at bytes 2) (length bytes))
  udp_at (V4 (take 4 (drop 12 bytes))) (V4 (take 4 (drop 16 bytes))) (drop (header_len bytes) (take (number_at bytes 2) bytes))

-- the extension headers that are passed over (RFC 8200 section 4): Hop-by-Hop Options, Routing, Destination Options
abbrev pub is_extension : ℕ → Bool
is_extension next = (next == 0) || ((next == 43) || (next == 60))

-- the next header of a fragment
abbrev pub fragment : ℕ
fragment = 44

-- a next header that UDP may follow
abbrev pub may_carry : ℕ → Bool
may_carry next = (next == udp) || ((next == fragment) || is_extension next)

-- the bytes, where they are UDP
abbrev pub carried_at : ℕ → List ℕ → Result (List ℕ) Unread
carried_at next bytes = if next == udp then Ok bytes else (if next == fragment then Err unread.Fragment else Err unread.Other)

-- the bytes after an extension header, whose second byte counts its words of 64 bits but the first
unfoldable pub extension_at : List ℕ → Result (List ℕ) Unread
extension_at bytes = do
  _ ← after unread.Damaged 8 bytes
  after unread.Damaged ((slice_index bytes 1 + 1) * 8) bytes

-- what stands after at most so many extension headers, the first of this number, where it is UDP
unfoldable pub transport_in : ℕ → ℕ → List ℕ → Result (List ℕ) Unread
transport_in zero next bytes = carried_at next bytes
transport_in (suc n) next bytes = if is_extension next then (extension_at bytes >>= λ rest. transport_in n (slice_index bytes 0) rest) else carried_at next bytes

-- an IPv6 datagram (RFC 8200 section 3): its payload is within what is there
unfoldable pub ipv6_at : List ℕ → Result DatagramValue Unread
ipv6_at bytes = do
  rest ← after unread.Cut 40 bytes
  _ ← require unread.Damaged (slice_index bytes 0 / 16 == 6)
  _ ← require unread.Other (may_carry (slice_index bytes 6))
  _ ← require unread.Cut (nat_le (number_at bytes 4) (length rest))
  payload ← transport_in 8 (slice_index bytes 6) (take (number_at bytes 4) rest)
  udp_at (V6 (take 16 (drop 8 bytes))) (V6 (take 16 (drop 24 bytes))) payload

-- an IP datagram, by the version in its first half byte
unfoldable pub ip_at : List ℕ → Result DatagramValue Unread
ip_at bytes = do
  _ ← after unread.Cut 1 bytes
  if slice_index bytes 0 / 16 == 4 then ipv4_at bytes else (if slice_index bytes 0 / 16 == 6 then ipv6_at bytes else Err unread.Other)

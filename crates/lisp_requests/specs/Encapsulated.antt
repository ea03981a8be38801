-- What stands around an encapsulated Map-Request (RFC 9301 section 5.8): the LISP header, an IPv4 (RFC 791) or IPv6 (RFC
-- 8200) header, and a UDP header (RFC 768).
use Rattle.std.specs.Prelude.{◌≡◌, ℕ, ◌+◌, ◌*◌, ◌/◌, ◌%◌, ◌^◌, ◌<◌, ◌≤◌, ◌==◌, nat_le, Bool, true, not, ◌&&◌, ◌||◌, List, [], ◌∷◌, ◌++◌, length, take, drop, Result, Ok, Err, slice_index, if◌then◌else◌}
use Rattle.std.specs.Int.{w16, to_be_bytes}
use Rattle.lisp_records.specs.declared.address.Addr.{Addr}
use Rattle.lisp_records.specs.declared.address.Addr.TheVariants.{V4, V6}
use Rattle.lisp_records.specs.Address.{IsWhole, family, octets}
use Rattle.lisp_records.specs.Result.{◌>>=◌}
use Rattle.lisp_records.specs.Reading.{number_at, is_set}
use Rattle.lisp_records.specs.Spelling.{IsBytes}
use Rattle.lisp_requests.specs.declared.fault.RequestFault.{RequestFault}
use Rattle.lisp_requests.specs.declared.fault.RequestFault.TheVariants as faults
use Rattle.lisp_requests.specs.Checksum.{all_ones, sum_of, udp_sum, checksum_of, udp_checksum_of}
use Rattle.lisp_requests.specs.Reading.{after, require}

-- an IP datagram that carries UDP: its addresses, and what stands after its header
pub record DatagramValue : Type 0 where
  pub source : Addr
  pub destination : Addr
  pub payload : List ℕ

abbrev pub datagram_of : Addr → Addr → List ℕ → DatagramValue
datagram_of source destination payload = record { source = source; destination = destination; payload = payload }

-- an encapsulated message: the inner addresses, the inner UDP source port, and the control message
pub record EncapsulatedValue : Type 0 where
  pub source : Addr
  pub destination : Addr
  pub port : ℕ
  pub message : List ℕ

-- the UDP port of LISP control messages
abbrev pub control_port : ℕ
control_port = 4342

-- ---- which bytes spell it

-- the UDP datagram carries its checksum, or over IPv4 none
abbrev pub is_summed : Addr → Addr → List ℕ → Bool
is_summed (V4 source) destination datagram = (number_at datagram 6 == 0) || (udp_sum (V4 source) destination datagram == all_ones)
is_summed (V6 source) destination datagram = not (number_at datagram 6 == 0) && (udp_sum (V6 source) destination datagram == all_ones)

-- an IPv4 header (RFC 791 section 3.1) of a datagram of so many bytes: no fragment, UDP, and it sums to all ones. What
-- stands in no equation is free: type of service, identification, DF, TTL, options
pub record SpellsIpv4 (header source destination : List ℕ) (total : ℕ) : Type 0 where
  pub first : ℕ
  pub service : ℕ
  pub id_high : ℕ
  pub id_low : ℕ
  pub fragment_high : ℕ
  pub fragment_low : ℕ
  pub hops : ℕ
  pub sum_high : ℕ
  pub sum_low : ℕ
  pub options : List ℕ
  pub parts : header ≡ first ∷ service ∷ to_be_bytes w16 total ++ id_high ∷ id_low ∷ fragment_high ∷ fragment_low ∷ hops ∷ 17 ∷ sum_high ∷ sum_low ∷ (source ++ (destination ++ options))
  pub version : first / 16 ≡ 4
  pub ihl : first % 16 * 4 ≡ length header
  pub total_fits : total < 2 ^ 16
  pub unfragmented : (fragment_high * 256 + fragment_low) % 16384 ≡ 0
  pub summed : sum_of header ≡ all_ones

-- an IPv6 header (RFC 8200 section 3) of a datagram of so many bytes of payload: UDP. Traffic class, flow label and hop
-- limit are free
pub record SpellsIpv6 (header source destination : List ℕ) (len : ℕ) : Type 0 where
  pub first : ℕ
  pub label_high : ℕ
  pub label_mid : ℕ
  pub label_low : ℕ
  pub hops : ℕ
  pub parts : header ≡ first ∷ label_high ∷ label_mid ∷ label_low ∷ to_be_bytes w16 len ++ 17 ∷ hops ∷ (source ++ destination)
  pub version : first / 16 ≡ 6
  pub len_fits : len < 2 ^ 16

-- the header of an IP datagram with so many bytes of payload: both addresses are of one family
abbrev pub SpellsHeader : List ℕ → Addr → Addr → ℕ → Type 0
SpellsHeader header (V4 source) (V4 destination) len = (length source ≡ 4) × (length destination ≡ 4) × SpellsIpv4 header source destination (length header + len)
SpellsHeader header (V6 source) (V6 destination) len = (length source ≡ 16) × (length destination ≡ 16) × SpellsIpv6 header source destination len
SpellsHeader header (V4 _) (V6 _) len = ⊥
SpellsHeader header (V6 _) (V4 _) len = ⊥

-- an IP datagram that carries UDP, and whatever follows it
pub record SpellsDatagram (bytes : List ℕ) (d : DatagramValue) : Type 0 where
  pub header : List ℕ
  pub tail : List ℕ
  pub parts : bytes ≡ header ++ (d.payload ++ tail)
  pub spells : SpellsHeader header d.source d.destination (length d.payload)

-- the 8 bytes of a UDP header to the control port: ports, the length with the message, a checksum
abbrev pub udp_header : ℕ → ℕ → ℕ → List ℕ
udp_header port len checksum = to_be_bytes w16 port ++ to_be_bytes w16 control_port ++ to_be_bytes w16 len ++ to_be_bytes w16 checksum

-- a UDP datagram (RFC 768) to the control port, and whatever follows it
pub record SpellsUdp (bytes : List ℕ) (m : EncapsulatedValue) : Type 0 where
  pub checksum : ℕ
  pub tail : List ℕ
  pub parts : bytes ≡ (udp_header m.port (8 + length m.message) checksum ++ m.message) ++ tail
  pub port : m.port < 2 ^ 16
  pub length_fits : 8 + length m.message < 2 ^ 16
  pub checksum_fits : checksum < 2 ^ 16
  pub summed : is_summed m.source m.destination (udp_header m.port (8 + length m.message) checksum ++ m.message) ≡ true

-- an encapsulated message: an equation for the whole list, then one for each field
pub record SpellsEncapsulated (bytes : List ℕ) (m : EncapsulatedValue) : Type 0 where
  pub kind : ℕ
  pub reserved_high : ℕ
  pub reserved_mid : ℕ
  pub reserved_low : ℕ
  pub datagram : List ℕ
  pub payload : List ℕ
  pub parts : bytes ≡ kind ∷ reserved_high ∷ reserved_mid ∷ reserved_low ∷ datagram
  pub encapsulated : kind / 16 ≡ 8
  pub plain : kind / 8 % 2 ≡ 0
  pub carries : SpellsDatagram datagram (record { source = m.source; destination = m.destination; payload = payload })
  pub udp : SpellsUdp payload m

-- an encapsulated message that is written so: both addresses of one family and whole, and the message fits a datagram
pub record IsEncapsulated (m : EncapsulatedValue) : Type 0 where
  pub one_family : family m.source ≡ family m.destination
  pub source : IsWhole m.source
  pub destination : IsWhole m.destination
  pub port : m.port < 2 ^ 16
  pub message : IsBytes m.message
  pub fits : length m.message ≤ 65507

-- both addresses are of one family, and the message fits an IPv4 and an IPv6 datagram
abbrev pub FitsDatagram : EncapsulatedValue → Type 0
FitsDatagram m = (family m.source ≡ family m.destination) × (length m.message ≤ 65507)

-- ---- how it is read

-- the bytes of an IPv4 header: its IHL counts words of 32 bits
abbrev pub header_len : List ℕ → ℕ
header_len bytes = slice_index bytes 0 % 16 * 4

-- an IPv4 datagram (RFC 791 section 3.1): the header fits its total length, and that what is there; no fragment; UDP; the
-- header sums to all ones
unfoldable pub ipv4_at : List ℕ → Result DatagramValue RequestFault
ipv4_at bytes = do
  _ ← after 20 bytes
  _ ← require faults.IpHeaderLength (nat_le 20 (header_len bytes))
  _ ← require faults.IpLength (nat_le (header_len bytes) (number_at bytes 2) && nat_le (number_at bytes 2) (length bytes))
  _ ← require faults.Fragment (number_at bytes 6 % 16384 == 0)
  _ ← require faults.Protocol (slice_index bytes 9 == 17)
  _ ← require faults.IpChecksum (sum_of (take (header_len bytes) bytes) == all_ones)
  Ok (record { source = V4 (take 4 (drop 12 bytes)); destination = V4 (take 4 (drop 16 bytes)); payload = drop (header_len bytes) (take (number_at bytes 2) bytes) })

-- an IPv6 datagram (RFC 8200 section 3): its payload is within what is there; UDP
unfoldable pub ipv6_at : List ℕ → Result DatagramValue RequestFault
ipv6_at bytes = do
  rest ← after 40 bytes
  _ ← require faults.IpLength (nat_le (number_at bytes 4) (length rest))
  _ ← require faults.Protocol (slice_index bytes 6 == 17)
  Ok (record { source = V6 (take 16 (drop 8 bytes)); destination = V6 (take 16 (drop 24 bytes)); payload = take (number_at bytes 4) rest })

-- an IP datagram, by the version in its first half byte
unfoldable pub datagram_at : List ℕ → Result DatagramValue RequestFault
datagram_at bytes = do
  _ ← after 1 bytes
  if slice_index bytes 0 / 16 == 4 then ipv4_at bytes else (if slice_index bytes 0 / 16 == 6 then ipv6_at bytes else Err faults.IpVersion)

-- what a UDP datagram to the control port carries (RFC 768)
unfoldable pub udp_at : DatagramValue → Result EncapsulatedValue RequestFault
udp_at d = do
  _ ← after 8 d.payload
  _ ← require faults.Port (number_at d.payload 2 == control_port)
  _ ← require faults.UdpLength (nat_le 8 (number_at d.payload 4) && nat_le (number_at d.payload 4) (length d.payload))
  _ ← require faults.UdpChecksum (is_summed d.source d.destination (take (number_at d.payload 4) d.payload))
  Ok (record { source = d.source; destination = d.destination; port = number_at d.payload 0; message = drop 8 (take (number_at d.payload 4) d.payload) })

-- the bytes after the 4 of the LISP header, where these are as they must be
unfoldable pub lisp_at : List ℕ → Result (List ℕ) RequestFault
lisp_at bytes = do
  rest ← after 4 bytes
  _ ← require faults.Kind (slice_index bytes 0 / 16 == 8)
  _ ← require faults.Security (not (is_set (slice_index bytes 0) 8))
  Ok rest

unfoldable pub encapsulated_at : List ℕ → Result EncapsulatedValue RequestFault
encapsulated_at bytes = do
  rest ← lisp_at bytes
  datagram ← datagram_at rest
  udp_at datagram

-- ---- where its message stands

-- the bytes of an IP header with a source address of this family
abbrev pub ip_header_len : List ℕ → Addr → ℕ
ip_header_len bytes (V4 _) = header_len bytes
ip_header_len bytes (V6 _) = 40

-- where the control message begins: after the LISP header, an IP header of this family, and a UDP header
abbrev pub message_place : List ℕ → Addr → ℕ
message_place bytes source = 4 + ip_header_len (drop 4 bytes) source + 8

-- a part stands at a place among bytes
abbrev pub StandsAt : List ℕ → ℕ → List ℕ → Type 0
StandsAt bytes at part = (take (length part) (drop at bytes) ≡ part) × (at + length part ≤ length bytes)

-- ---- how it is written

-- IPv4 before the addresses: version 4 and IHL 5, total length, no fragment, TTL 64, UDP and a checksum; all else 0
abbrev pub ipv4_head : ℕ → ℕ → List ℕ
ipv4_head len checksum = 69 ∷ 0 ∷ to_be_bytes w16 (20 + len) ++ 0 ∷ 0 ∷ 0 ∷ 0 ∷ 64 ∷ 17 ∷ to_be_bytes w16 checksum

-- IPv6 before the addresses: version 6, payload length, UDP and hop limit 64; all else 0
abbrev pub ipv6_head : ℕ → List ℕ
ipv6_head len = 96 ∷ 0 ∷ 0 ∷ 0 ∷ to_be_bytes w16 len ++ 17 ∷ 64 ∷ []

abbrev pub addresses : Addr → Addr → List ℕ
addresses source destination = octets source ++ octets destination

-- the sum of an IPv4 header whose checksum is 0
abbrev pub ipv4_sum : Addr → Addr → ℕ → ℕ
ipv4_sum source destination len = sum_of (ipv4_head len 0 ++ addresses source destination)

-- the header of an IP datagram of so many bytes of payload, with its checksum, before the addresses
abbrev pub ip_head : Addr → Addr → ℕ → List ℕ
ip_head (V4 source) destination len = ipv4_head len (checksum_of (ipv4_sum (V4 source) destination len))
ip_head (V6 _) _ len = ipv6_head len

-- the sum of a UDP datagram whose checksum is 0
abbrev pub bare_sum : EncapsulatedValue → ℕ
bare_sum m = udp_sum m.source m.destination (udp_header m.port (8 + length m.message) 0 ++ m.message)

-- the UDP header with the checksum of the datagram
abbrev pub summed_header : EncapsulatedValue → List ℕ
summed_header m = udp_header m.port (8 + length m.message) (udp_checksum_of (bare_sum m))

-- the IP header of a datagram of so many bytes of payload, and the UDP datagram
abbrev pub written_ip : Addr → Addr → ℕ → List ℕ
written_ip source destination len = ip_head source destination len ++ addresses source destination

abbrev pub written_udp : EncapsulatedValue → List ℕ
written_udp m = summed_header m ++ m.message

-- the 4 bytes of the LISP header: type 8, and all else 0
abbrev pub lisp_head : List ℕ
lisp_head = 128 ∷ 0 ∷ 0 ∷ 0 ∷ []

unfoldable pub written_encapsulated : EncapsulatedValue → List ℕ
written_encapsulated m = lisp_head ++ (ip_head m.source m.destination (8 + length m.message) ++ (addresses m.source m.destination ++ (summed_header m ++ m.message)))

-- The datagram in a frame, by its link type.
use Rattle.std.specs.Prelude.{ℕ, ◌==◌, Bool, ◌||◌, List, Result, Ok, Err, if◌then◌else◌}
use Rattle.lisp_records.specs.Result.{◌>>=◌}
use Rattle.lisp_records.specs.Reading.{number_at}
use Rattle.lisp_captures.specs.declared.datagram.Unread.{Unread}
use Rattle.lisp_captures.specs.declared.datagram.Unread.TheVariants as unread
use Rattle.lisp_captures.specs.Value.{DatagramValue, FrameValue}
use Rattle.lisp_captures.specs.Reading.{after}
use Rattle.lisp_captures.specs.Internet.{ip_at, ipv4_at, ipv6_at}

-- the EtherTypes of VLAN tags (IEEE 802.1Q)
abbrev pub is_tag : ℕ → Bool
is_tag ether_type = (ether_type == 0x8100) || (ether_type == 0x88a8)

-- the EtherType after a VLAN tag, where there is one, and the bytes after it
unfoldable pub untagged_at : ℕ → List ℕ → Result (ℕ × List ℕ) Unread
untagged_at ether_type bytes = if is_tag ether_type then (after unread.Cut 4 bytes >>= λ rest. Ok (number_at bytes 2, rest)) else Ok (ether_type, bytes)

-- the datagram of what an EtherType names
abbrev pub network_at : ℕ → List ℕ → Result DatagramValue Unread
network_at ether_type bytes = if ether_type == 0x0800 then ipv4_at bytes else (if ether_type == 0x86dd then ipv6_at bytes else Err unread.Other)

-- the datagram of a frame with a header of so many bytes, in which the EtherType stands at a place: past two VLAN tags
unfoldable pub typed_at : ℕ → ℕ → List ℕ → Result DatagramValue Unread
typed_at len type_at bytes = do
  rest ← after unread.Cut len bytes
  outer ← untagged_at (number_at bytes type_at) rest
  inner ← untagged_at outer.0 outer.1
  network_at inner.0 inner.1

-- the link types of raw IP
abbrev pub is_raw : ℕ → Bool
is_raw link = (link == 101) || ((link == 12) || (link == 14))

-- the datagram of a frame: Ethernet, Linux cooked of both versions, raw IP, IPv4 and IPv6
abbrev pub link_at : ℕ → List ℕ → Result DatagramValue Unread
link_at link bytes =
    if link == 1 then typed_at 14 12 bytes
    else (if link == 113 then typed_at 16 14 bytes
    else (if link == 276 then typed_at 20 0 bytes
    else (if is_raw link then ip_at bytes
    else (if link == 228 then ipv4_at bytes
    else (if link == 229 then ipv6_at bytes
    else Err unread.Other)))))

-- bytes that end too early are damaged, unless less was captured than sent
abbrev pub as_captured : Bool → Result DatagramValue Unread → Result DatagramValue Unread
as_captured is_cut (Ok d) = Ok d
as_captured is_cut (Err unread.Cut) = if is_cut then Err unread.Cut else Err unread.Damaged
as_captured is_cut (Err why) = Err why

abbrev pub content_of : FrameValue → Result DatagramValue Unread
content_of frame = as_captured frame.is_cut (link_at frame.link frame.bytes)

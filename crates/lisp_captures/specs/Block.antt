-- The blocks of a pcapng file (draft-ietf-opsawg-pcapng sections 3 and 4).
use Rattle.std.specs.Prelude.{ℕ, ◌+◌, ◌-◌, ◌*◌, ◌==◌, nat_lt, nat_le, min, List, length, take, drop, slice_get, Option, Some, None, Result, Ok, Err, if◌then◌else◌}
use Rattle.lisp_records.specs.Result.{◌>>=◌}
use Rattle.lisp_captures.specs.declared.block.Block.{Block}
use Rattle.lisp_captures.specs.declared.datagram.Unread.{Unread}
use Rattle.lisp_captures.specs.declared.datagram.Unread.TheVariants as unread
use Rattle.lisp_captures.specs.declared.interface.Interface.{Interface}
use Rattle.lisp_captures.specs.declared.numbers.ByteOrder.{ByteOrder}
use Rattle.lisp_captures.specs.declared.numbers.ByteOrder.TheVariants.{Little, Big}
use Rattle.lisp_captures.specs.Numbers.{u32_at}
use Rattle.lisp_captures.specs.Moment.{moment_of}
use Rattle.lisp_captures.specs.Value.{FrameValue}
use Rattle.lisp_captures.specs.Reading.{after, require}

-- a block: the byte order of its section, its type, what stands between its two lengths, and what stands after it
pub record BlockValue : Type 0 where
  pub order : ByteOrder
  pub kind : ℕ
  pub body : List ℕ
  pub rest : List ℕ

abbrev pub block_value : Block → BlockValue
block_value b = record { order = b.order; kind = b.kind; body = b.body.now; rest = b.rest.now }

-- the types of blocks: Section Header, Interface Description, Enhanced Packet, Simple Packet
abbrev pub section : ℕ
section = 0x0a0d0d0a

abbrev pub description : ℕ
description = 1

abbrev pub enhanced_packet : ℕ
enhanced_packet = 6

abbrev pub simple_packet : ℕ
simple_packet = 3

-- the byte-order magic of a section header, in the byte order of the section
abbrev pub byte_order_magic : ℕ
byte_order_magic = 0x1a2b3c4d

-- the byte order of a block: that of its section, or of the section that it begins
unfoldable pub order_at : ByteOrder → List ℕ → Result ByteOrder Unread
order_at order bytes =
    if u32_at Big bytes 0 == section then
    (if u32_at Big bytes 8 == byte_order_magic then Ok Big
    else (if u32_at Little bytes 8 == byte_order_magic then Ok Little else Err unread.Lost))
    else Ok order

-- a block: its type, its length, a body, and its length again
unfoldable pub block_at : ByteOrder → List ℕ → Result BlockValue Unread
block_at order bytes = do
  _ ← after unread.Truncated 12 bytes
  own ← order_at order bytes
  _ ← require unread.Lost (nat_le 12 (u32_at own bytes 4))
  _ ← require unread.Truncated (nat_le (u32_at own bytes 4) (length bytes))
  _ ← require unread.Lost (u32_at own bytes (u32_at own bytes 4 - 4) == u32_at own bytes 4)
  Ok (record { order = own; kind = u32_at own bytes 0; body = drop 8 (take (u32_at own bytes 4 - 4) bytes); rest = drop (u32_at own bytes 4) bytes })

-- the interface of a number in its section, from 0 on
abbrev pub numbered : Option Interface → Result Interface Unread
numbered (Some interface) = Ok interface
numbered None = Err unread.Damaged

abbrev pub interface_at : List Interface → ℕ → Result Interface Unread
interface_at interfaces number = numbered (slice_get interfaces number)

-- the ticks of an Enhanced Packet Block, in two halves, the high one first
abbrev pub ticks_at : ByteOrder → List ℕ → ℕ
ticks_at order body = u32_at order body 4 * 0x100000000 + u32_at order body 8

-- an Enhanced Packet Block (section 4.3): interface, ticks, how many bytes were captured and sent, and those captured
unfoldable pub enhanced_at : ByteOrder → List Interface → List ℕ → Result FrameValue Unread
enhanced_at order interfaces body = do
  packet ← after unread.Damaged 20 body
  interface ← interface_at interfaces (u32_at order body 0)
  _ ← require unread.Damaged (nat_le (u32_at order body 12) (length packet))
  Ok (record { link = interface.link; at = moment_of interface.resolution (ticks_at order body); is_cut = nat_lt (u32_at order body 12) (u32_at order body 16); bytes = take (u32_at order body 12) packet })

-- how many bytes of a packet an interface captures: at most its snapshot length, where that isn't 0
abbrev pub snapped : Interface → ℕ → ℕ
snapped interface original = if interface.snap_len == 0 then original else min original interface.snap_len

-- a Simple Packet Block (section 4.4): how many bytes were sent, and those that the first interface captured
unfoldable pub simple_at : ByteOrder → List Interface → List ℕ → Result FrameValue Unread
simple_at order interfaces body = do
  packet ← after unread.Damaged 4 body
  interface ← interface_at interfaces 0
  _ ← require unread.Damaged (nat_le (snapped interface (u32_at order body 0)) (length packet))
  Ok (record { link = interface.link; at = None; is_cut = nat_lt (snapped interface (u32_at order body 0)) (u32_at order body 0); bytes = take (snapped interface (u32_at order body 0)) packet })

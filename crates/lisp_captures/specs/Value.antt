-- What the datagrams, frames and packets of the program say.
use Rattle.std.specs.Prelude.{ℕ, Bool, List, Option, Result, Ok, Err}
use Rattle.lisp_records.specs.declared.address.Addr.{Addr}
use Rattle.lisp_captures.specs.declared.datagram.Datagram.{Datagram}
use Rattle.lisp_captures.specs.declared.datagram.Unread.{Unread}
use Rattle.lisp_captures.specs.declared.frame.Frame.{Frame}
use Rattle.lisp_captures.specs.declared.packet.Packet.{Packet}

-- a UDP datagram
pub record DatagramValue : Type 0 where
  pub source : Addr
  pub destination : Addr
  pub source_port : ℕ
  pub destination_port : ℕ
  pub payload : List ℕ

-- what was captured of a frame: its link type, when (in microseconds since 1970), whether it is less than was sent, and its
-- bytes
pub record FrameValue : Type 0 where
  pub link : ℕ
  pub at : Option ℕ
  pub is_cut : Bool
  pub bytes : List ℕ

-- a packet: its number in the capture, from 1 on, when it was captured, and its datagram
pub record PacketValue : Type 0 where
  pub number : ℕ
  pub at : Option ℕ
  pub content : Result DatagramValue Unread

abbrev pub datagram_value : Datagram → DatagramValue
datagram_value d = record { source = d.source; destination = d.destination; source_port = d.source_port; destination_port = d.destination_port; payload = d.payload.now }

abbrev pub frame_value : Frame → FrameValue
frame_value f = record { link = f.link; at = f.at; is_cut = f.is_cut; bytes = f.bytes.now }

abbrev pub content_value : Result Datagram Unread → Result DatagramValue Unread
content_value (Ok d) = Ok (datagram_value d)
content_value (Err why) = Err why

abbrev pub packet_value : Packet → PacketValue
packet_value p = record { number = p.number; at = p.at; content = content_value p.content }

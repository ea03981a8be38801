-- The packets of a capture.
use Rattle.std.specs.Prelude.{◌≡◌, ℕ, zero, suc, ◌+◌, ◌==◌, List, [], ◌∷◌, ◌++◌, length, Option, Some, None, option_map, Result, Ok, Err, if◌then◌else◌}
use Rattle.lisp_captures.specs.declared.datagram.Unread.{Unread}
use Rattle.lisp_captures.specs.declared.frame.Frame.{Frame}
use Rattle.lisp_captures.specs.declared.header.Format.{Format}
use Rattle.lisp_captures.specs.declared.header.Format.TheVariants.{Pcap, Pcapng}
use Rattle.lisp_captures.specs.declared.interface.Interface.{Interface}
use Rattle.lisp_captures.specs.declared.packet.Packet.{Packet}
use Rattle.lisp_captures.specs.Block.{BlockValue, block_at, section, description, enhanced_packet, simple_packet, enhanced_at, simple_at}
use Rattle.lisp_captures.specs.CaptureValue.{CaptureValue}
use Rattle.lisp_captures.specs.Frame.{content_of}
use Rattle.lisp_captures.specs.Interface.{described_at}
use Rattle.lisp_captures.specs.Record.{record_at}
use Rattle.lisp_captures.specs.Value.{FrameValue, PacketValue, frame_value, packet_value}

abbrev pub frame_seen : Result Frame Unread → Result FrameValue Unread
frame_seen (Ok frame) = Ok (frame_value frame)
frame_seen (Err why) = Err why

-- the packet of a number, by its frame or why it has none
abbrev pub packet_of : ℕ → Result FrameValue Unread → PacketValue
packet_of number (Ok frame) = record { number = number; at = frame.at; content = content_of frame }
packet_of number (Err why) = record { number = number; at = None; content = Err why }

-- a step through a capture: the packet that it gives, if any, and what is still to come
abbrev pub Step : Type 0
Step = Option PacketValue × CaptureValue

-- a step that gives a packet
abbrev pub packet_step : CaptureValue → List ℕ → Result FrameValue Unread → Step
packet_step c rest frame = (Some (packet_of (c.count + 1) frame), record c { rest = rest; count = c.count + 1 })

-- the last step, where what follows can't be found
abbrev pub last_step : CaptureValue → Unread → Step
last_step c why = packet_step c [] (Err why)

-- a step over a record of pcap
abbrev pub record_step : CaptureValue → Result (FrameValue × List ℕ) Unread → Step
record_step c (Ok x) = packet_step c x.1 (Ok x.0)
record_step c (Err why) = last_step c why

-- a step over an Interface Description Block
abbrev pub described_step : CaptureValue → List ℕ → Result Interface Unread → Step
described_step c rest (Ok interface) = (None, record c { rest = rest; interfaces = c.interfaces ++ interface ∷ [] })
described_step c rest (Err why) = last_step c why

-- a step over a block of pcapng. A section has its own byte order and interfaces; blocks of other types are passed over
abbrev pub block_step : CaptureValue → Result BlockValue Unread → Step
block_step c (Err why) = last_step c why
block_step c (Ok block) =
    if block.kind == section then (None, record c { rest = block.rest; order = block.order; interfaces = [] })
    else (if block.kind == description then described_step c block.rest (described_at block.order block.body)
    else (if block.kind == enhanced_packet then packet_step c block.rest (enhanced_at block.order c.interfaces block.body)
    else (if block.kind == simple_packet then packet_step c block.rest (simple_at block.order c.interfaces block.body)
    else (None, record c { rest = block.rest }))))

-- a step over the next record or block
abbrev pub step_by : Format → CaptureValue → Step
step_by (Pcap interface) c = record_step c (record_at c.order interface c.rest)
step_by Pcapng c = block_step c (block_at c.order c.rest)

unfoldable pub step_of : CaptureValue → Step
step_of c = step_by c.format c

-- a packet, if there is one, and others
abbrev pub with_others : Option PacketValue → List PacketValue → List PacketValue
with_others (Some packet) others = packet ∷ others
with_others None others = others

-- the packets of at most so many steps
unfoldable pub packets_in : ℕ → CaptureValue → List PacketValue
packets_in zero c = []
packets_in (suc n) c = if length c.rest == 0 then [] else with_others (step_of c).0 (packets_in n (step_of c).1)

-- the packets to come: each step takes a byte at least
abbrev pub packets_of : CaptureValue → List PacketValue
packets_of c = packets_in (length c.rest) c

-- what a step gives
abbrev pub GivesStep : CaptureValue → Step → Option Packet → Type 0
GivesStep new step result = (option_map packet_value result ≡ step.0) × (new ≡ step.1)

-- the packets to come before are the one that is given and those to come after it
abbrev pub GivesNext : CaptureValue → CaptureValue → Option Packet → Type 0
GivesNext old new None = packets_of old ≡ []
GivesNext old new (Some packet) = packets_of old ≡ packet_value packet ∷ packets_of new

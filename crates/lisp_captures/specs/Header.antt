-- How a capture begins: the header of a pcap file (draft-ietf-opsawg-pcap section 4), or a section of pcapng.
use Rattle.std.specs.Prelude.{ℕ, ◌%◌, ◌^◌, ◌==◌, nat_lt, List, [], length, drop, Option, Some, None, Result, Ok, Err, if◌then◌else◌}
use Rattle.lisp_captures.specs.declared.fault.CaptureFault.{CaptureFault}
use Rattle.lisp_captures.specs.declared.fault.CaptureFault.TheVariants as faults
use Rattle.lisp_captures.specs.declared.header.Format.{Format}
use Rattle.lisp_captures.specs.declared.header.Format.TheVariants.{Pcap, Pcapng}
use Rattle.lisp_captures.specs.declared.numbers.ByteOrder.{ByteOrder}
use Rattle.lisp_captures.specs.declared.numbers.ByteOrder.TheVariants.{Little, Big}
use Rattle.lisp_captures.specs.Block.{section}
use Rattle.lisp_captures.specs.CaptureValue.{CaptureValue}
use Rattle.lisp_captures.specs.Numbers.{u32_at}

-- a capture before its first packet
abbrev pub began : Format → ByteOrder → List ℕ → CaptureValue
began format order rest = record { rest = rest; count = 0; order = order; format = format; interfaces = [] }

-- the resolution that the magic number of pcap says, in a byte order: microseconds or nanoseconds
abbrev pub resolution_at : ByteOrder → List ℕ → Option ℕ
resolution_at order bytes = if u32_at order bytes 0 == 0xa1b2c3d4 then Some 6 else (if u32_at order bytes 0 == 0xa1b23c4d then Some 9 else None)

-- a pcap file of a resolution: 24 bytes, of which the last 8 are the snapshot length and, in their low 16 bits, the link type
unfoldable pub pcap_at : ByteOrder → ℕ → List ℕ → Result CaptureValue CaptureFault
pcap_at order resolution bytes =
    if nat_lt (length bytes) 24 then Err faults.Short
    else Ok (began (Pcap (record { link = u32_at order bytes 20 % 2 ^ 16; snap_len = u32_at order bytes 16; resolution = resolution })) order (drop 24 bytes))

-- a pcap file of this byte order, and else what it is
abbrev pub or_pcap : ByteOrder → List ℕ → Result CaptureValue CaptureFault → Result CaptureValue CaptureFault
or_pcap order bytes other = of_magic (resolution_at order bytes)
  where
    of_magic : Option ℕ → Result CaptureValue CaptureFault
    of_magic (Some resolution) = pcap_at order resolution bytes
    of_magic None = other

-- a capture by its first 4 bytes: pcapng, whose first block says its byte order, or pcap of either byte order
unfoldable pub header_at : List ℕ → Result CaptureValue CaptureFault
header_at bytes =
    if nat_lt (length bytes) 4 then Err faults.Unknown
    else (if u32_at Big bytes 0 == section then Ok (began Pcapng Big bytes)
    else or_pcap Big bytes (or_pcap Little bytes (Err faults.Unknown)))

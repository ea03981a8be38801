-- The header and the records of a pcap file (draft-ietf-opsawg-pcap sections 4 and 5).
use Rattle.std.specs.Prelude.{ℕ, ◌+◌, ◌*◌, ◌==◌, nat_lt, nat_le, List, length, take, drop, Result, Ok, if◌then◌else◌}
use Rattle.lisp_records.specs.Result.{◌>>=◌}
use Rattle.lisp_captures.specs.declared.datagram.Unread.{Unread}
use Rattle.lisp_captures.specs.declared.datagram.Unread.TheVariants as unread
use Rattle.lisp_captures.specs.declared.interface.Interface.{Interface}
use Rattle.lisp_captures.specs.declared.numbers.ByteOrder.{ByteOrder}
use Rattle.lisp_captures.specs.Numbers.{u32_at}
use Rattle.lisp_captures.specs.Moment.{moment_of}
use Rattle.lisp_captures.specs.Value.{FrameValue}
use Rattle.lisp_captures.specs.Reading.{after, require}

-- a record has seconds, and microseconds or nanoseconds
abbrev pub ticks_at : ByteOrder → ℕ → List ℕ → ℕ
ticks_at order resolution bytes = u32_at order bytes 0 * (if resolution == 6 then 1000000 else 1000000000) + u32_at order bytes 4

-- the frame of a record, of so many bytes captured and so many sent
abbrev pub recorded : ByteOrder → Interface → List ℕ → List ℕ → FrameValue
recorded order interface bytes packet = record {
  link = interface.link;
  at = moment_of interface.resolution (ticks_at order interface.resolution bytes);
  is_cut = nat_lt (u32_at order bytes 8) (u32_at order bytes 12);
  bytes = packet;
}

-- a record, and the bytes after it
unfoldable pub record_at : ByteOrder → Interface → List ℕ → Result (FrameValue × List ℕ) Unread
record_at order interface bytes = do
  body ← after unread.Truncated 16 bytes
  _ ← require unread.Truncated (nat_le (u32_at order bytes 8) (length body))
  Ok (recorded order interface bytes (take (u32_at order bytes 8) body), drop (u32_at order bytes 8) body)

-- The line of a packet, and those of a capture.
use Rattle.std.specs.Prelude.{◌≡◌, ℕ, ◌-◌, ◌<◌, ◌==◌, Bool, ◌||◌, List, [], ◌∷◌, ◌++◌, length, Option, Some, None, Result, Ok, Err, String, string_bytes, if◌then◌else◌, codes}
use Rattle.std.specs.Fmt.{decimal}
use Rattle.lisp_captures.specs.declared.datagram.Unread.{Unread}
use Rattle.lisp_captures.specs.declared.datagram.Unread.TheVariants as unread
use Rattle.lisp_captures.specs.declared.fault.CaptureFault.{CaptureFault}
use Rattle.lisp_captures.specs.Capture.{packets_of}
use Rattle.lisp_captures.specs.CaptureValue.{CaptureValue}
use Rattle.lisp_captures.specs.Value.{DatagramValue, PacketValue}
use Rattle.lisp_policy.specs.Site.{SiteValue}
use Rattle.lisp_texts.specs.Written.{addr_text}
use Rattle.lisp_transcript.specs.Message.{message_text}
use Rattle.lisp_transcript.specs.Pieces.{time_text}
use Rattle.lisp_transcript.specs.Tag.{tag_of}

-- the UDP port of the LISP control plane (RFC 9301 section 5)
abbrev pub control_port : ℕ
control_port = 4342

abbrev pub is_control : DatagramValue → Bool
is_control d = (d.source_port == control_port) || (d.destination_port == control_port)

-- a packet's number, and how long after the first one it was captured
unfoldable pub front_text : ℕ → Option ℕ → List ℕ
front_text number time = decimal number ++ (codes " " ++ time_text time)

-- from whom to whom
unfoldable pub route_text : DatagramValue → List ℕ
route_text d = codes " " ++ (addr_text d.source ++ (codes " > " ++ (addr_text d.destination ++ codes " ")))

unfoldable pub datagram_text : List SiteValue → ℕ → Option ℕ → DatagramValue → List ℕ
datagram_text sites number time d = front_text number time ++ (route_text d ++ (message_text (tag_of sites d.payload) d.payload ++ codes "\n"))

unfoldable pub why_text : ℕ → Option ℕ → List ℕ → List ℕ
why_text number time why = front_text number time ++ (codes " can't be read: " ++ (why ++ codes "\n"))

-- why a packet's datagram isn't read; nothing of what is no UDP over IP
abbrev pub unread_words : Unread → Option (List ℕ)
unread_words unread.Cut = Some (codes "less was captured than was sent")
unread_words unread.Damaged = Some (codes "a header says what can't be")
unread_words unread.Fragment = Some (codes "an IP fragment")
unread_words unread.Other = None
unread_words unread.Truncated = Some (codes "the capture ends in it")
unread_words unread.Lost = Some (codes "it can't be found, nor what follows")

abbrev pub unread_text : ℕ → Option ℕ → Option (List ℕ) → List ℕ
unread_text number time (Some why) = why_text number time why
unread_text number time None = []

-- the line of a packet; none of a datagram to and from other ports
abbrev pub content_text : List SiteValue → ℕ → Option ℕ → Result DatagramValue Unread → List ℕ
content_text sites number time (Ok d) = if is_control d then datagram_text sites number time d else []
content_text sites number time (Err why) = unread_text number time (unread_words why)

abbrev pub line_text : List SiteValue → Option ℕ → PacketValue → List ℕ
line_text sites time p = content_text sites p.number time p.content

-- when the capture began: at its first packet that has a time
abbrev pub begun : Option ℕ → Option ℕ → Option ℕ
begun (Some start) at = Some start
begun None at = at

-- how long after that a packet was captured; 0 where that was before
abbrev pub since : Option ℕ → Option ℕ → Option ℕ
since (Some start) (Some at) = Some (at - start)
since _ _ = None

-- the lines of packets of a capture that began, if it is known when
abbrev pub lines_from : List SiteValue → Option ℕ → List PacketValue → List ℕ
lines_from sites start [] = []
lines_from sites start (p ∷ ps) = line_text sites (since (begun start p.at) p.at) p ++ lines_from sites (begun start p.at) ps

-- what is still to come of a transcript: packets, and when the capture began, if that is known yet
pub record TranscriptValue : Type 0 where
  pub packets : List PacketValue
  pub start : Option ℕ

-- a capture before its first packet
abbrev pub opened : Result CaptureValue CaptureFault → Result TranscriptValue CaptureFault
opened (Ok c) = Ok (record { packets = packets_of c; start = None })
opened (Err e) = Err e

abbrev pub lines_of : List SiteValue → TranscriptValue → List ℕ
lines_of sites t = lines_from sites t.start t.packets

-- the lines to come before are the text that is given, and those to come after it
abbrev pub GivesLine : {Z : Type 0} → List ℕ → List ℕ → Option (String Z) → Type 0
GivesLine before after (Some text) = before ≡ string_bytes text ++ after
GivesLine before after None = before ≡ []

-- fewer packets are still to come
abbrev pub Fewer : List PacketValue → List PacketValue → Type 0
Fewer before after = length after < length before

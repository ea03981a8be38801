-- A capture as a schedule of `junk` commands: what its datagrams are to the nodes of a configuration.
use Rattle.std.specs.Prelude.{ℕ, ◌-◌, ◌/◌, ◌==◌, nat_lt, List, [], ◌∷◌, ◌++◌, Option, Some, None, Result, Ok, Err, if◌then◌else◌, codes}
use Rattle.std.specs.Fmt.{decimal}
use Rattle.std.specs.List.{find}
use Rattle.lisp_captures.specs.declared.datagram.Unread.{Unread}
use Rattle.lisp_captures.specs.declared.fault.CaptureFault.{CaptureFault}
use Rattle.lisp_captures.specs.Capture.{packets_of}
use Rattle.lisp_captures.specs.CaptureValue.{CaptureValue}
use Rattle.lisp_captures.specs.Value.{DatagramValue, PacketValue}
use Rattle.lisp_policy.specs.Configuration.{ConfigValue, RouterEntryValue, ServerEntryValue}
use Rattle.lisp_records.specs.declared.address.Addr.{Addr}
use Rattle.lisp_records.specs.Address.{addr_eq}
use Rattle.lisp_texts.specs.Written.{addr_text}
use Rattle.lisp_transcript.specs.Line.{begun, is_control, since, unread_words}
use Rattle.lisp_transcript.specs.Pieces.{hex_bytes}

-- the name of the node with an address, of a Map-Server or else of a router
abbrev pub named : Option ServerEntryValue → Option RouterEntryValue → Option (List ℕ)
named (Some server) router = Some server.name
named None (Some router) = Some router.name
named None None = None

abbrev pub node_at : ConfigValue → Addr → Option (List ℕ)
node_at c addr = named (find (λ s. addr_eq s.address addr) c.servers) (find (λ r. addr_eq r.address addr) c.routers)

-- bytes as a word of a schedule
abbrev pub bytes_word : List ℕ → List ℕ
bytes_word [] = codes "-"
bytes_word (first ∷ others) = hex_bytes (first ∷ others)

-- the time that passes, where some does
unfoldable pub tick_text : ℕ → List ℕ
tick_text ms = if ms == 0 then [] else codes "tick " ++ (decimal ms ++ codes "\n")

unfoldable pub packet_text : ℕ → List ℕ
packet_text number = codes "# packet " ++ (decimal number ++ codes "\n")

unfoldable pub left_out_text : ℕ → List ℕ → List ℕ
left_out_text number why = codes "# packet " ++ (decimal number ++ (codes " left out: " ++ (why ++ codes "\n")))

-- the command for a datagram to a node
unfoldable pub junk_text : List ℕ → DatagramValue → List ℕ
junk_text name d = codes "junk " ++ (name ++ (codes " " ++ (addr_text d.source ++ (codes " " ++ (bytes_word d.payload ++ codes "\n")))))

-- a datagram to none
unfoldable pub nowhere_text : ℕ → Addr → List ℕ
nowhere_text number addr = codes "# packet " ++ (decimal number ++ (codes " left out: no node of the configuration has the address " ++ (addr_text addr ++ codes "\n")))

-- a datagram to a node of the configuration, if it is one, after so many ms
abbrev pub to_node_text : Option (List ℕ) → ℕ → ℕ → DatagramValue → List ℕ
to_node_text (Some name) ms number d = packet_text number ++ (tick_text ms ++ junk_text name d)
to_node_text None ms number d = tick_text ms ++ nowhere_text number d.destination

-- what isn't read, but for what is no UDP over IP
abbrev pub unread_entry : ℕ → Option (List ℕ) → List ℕ
unread_entry number (Some why) = left_out_text number why
unread_entry number None = []

abbrev pub content_entry : ConfigValue → ℕ → ℕ → Result DatagramValue Unread → List ℕ
content_entry c ms number (Ok d) = if is_control d then to_node_text (node_at c d.destination) ms number d else []
content_entry c ms number (Err why) = unread_entry number (unread_words why)

-- whole ms of microseconds; 0 where they aren't known
abbrev pub in_ms : Option ℕ → ℕ
in_ms (Some us) = us / 1000
in_ms None = 0

-- how many ms had passed, and pass before a packet
abbrev pub later : ℕ → ℕ → ℕ
later ms now = if nat_lt ms now then now else ms

-- how many ms have passed behind a packet
abbrev pub passed : ℕ → ℕ → Result DatagramValue Unread → ℕ
passed ms now (Ok d) = if is_control d then later ms now else ms
passed ms now (Err why) = ms

-- the entries of packets of a capture that began, if it is known when, where so many ms have passed
abbrev pub entry_text : ConfigValue → ℕ → ℕ → PacketValue → List ℕ
entry_text c ms now p = content_entry c (now - ms) p.number p.content

abbrev pub entries_from : ConfigValue → Option ℕ → ℕ → List PacketValue → List ℕ
entries_from c start ms [] = []
entries_from c start ms (p ∷ ps) =
    entry_text c ms (in_ms (since (begun start p.at) p.at)) p
    ++ entries_from c (begun start p.at) (passed ms (in_ms (since (begun start p.at) p.at)) p.content) ps

-- what is still to come of a schedule: packets, when the capture began, if that is known yet, and how many ms have passed
pub record ScheduleValue : Type 0 where
  pub packets : List PacketValue
  pub start : Option ℕ
  pub ms : ℕ

abbrev pub entries_of : ConfigValue → ScheduleValue → List ℕ
entries_of c s = entries_from c s.start s.ms s.packets

-- a capture before its first packet
abbrev pub schedule_opened : Result CaptureValue CaptureFault → Result ScheduleValue CaptureFault
schedule_opened (Ok c) = Ok (record { packets = packets_of c; start = None; ms = 0 })
schedule_opened (Err e) = Err e

-- What is told of a message (RFC 9301 section 5.1).
use Rattle.std.specs.Prelude.{ℕ, ◌/◌, ◌==◌, Bool, true, false, List, [], ◌∷◌, ◌++◌, length, Result, Ok, Err, if◌then◌else◌, codes}
use Rattle.std.specs.Fmt.{decimal}
use Rattle.std.specs.List.{flat_map}
use Rattle.lisp_records.specs.Record.{MapRecordValue}
use Rattle.lisp_texts.specs.Written.{record_text}
use Rattle.lisp_messages.specs.Message.{MapRegisterValue, MapNotifyValue, MessageValue, Registers, Notifies}
use Rattle.lisp_messages.specs.Reading.{message_at}
use Rattle.lisp_messages.specs.declared.fault.ReadFault.{ReadFault}
use Rattle.lisp_transcript.specs.declared.tag.Tag.{Tag}
use Rattle.lisp_transcript.specs.Fault.{fault_text}
use Rattle.lisp_transcript.specs.Pieces.{hex_bytes, site_text}
use Rattle.lisp_transcript.specs.Tag.{tag_text}

-- the router that sent a Map-Register
unfoldable pub router_text : MapRegisterValue → List ℕ
router_text m = codes " site " ++ (site_text m.site ++ (codes " xtr " ++ hex_bytes m.xtr))

-- a Key ID and a nonce
unfoldable pub keyed_text : ℕ → ℕ → List ℕ
keyed_text key nonce = codes " key " ++ (decimal key ++ (codes " nonce " ++ decimal nonce))

-- a word that stands where a bit is set
unfoldable pub word_if : Bool → List ℕ → List ℕ
word_if set word = if set then word else []

-- P, T and M
unfoldable pub bits_text : MapRegisterValue → List ℕ
bits_text m = word_if m.proxy (codes " proxy") ++ (word_if m.use_ttl (codes " use-ttl") ++ word_if m.want_notify (codes " want-notify"))

abbrev pub one_record : MapRecordValue → List ℕ
one_record m = codes " " ++ record_text m

-- how many records, then each
abbrev pub records_text : List MapRecordValue → List ℕ
records_text rs = codes " records " ++ (decimal (length rs) ++ flat_map one_record rs)

abbrev pub register_text : Tag → MapRegisterValue → List ℕ
register_text tag m = codes "map-register" ++ (router_text m ++ (keyed_text m.key_id m.nonce ++ (bits_text m ++ (tag_text tag ++ records_text m.records))))

abbrev pub notify_kind : Bool → List ℕ
notify_kind true = codes "map-notify-ack"
notify_kind false = codes "map-notify"

abbrev pub notify_text : Tag → MapNotifyValue → List ℕ
notify_text tag m = notify_kind m.ack ++ (keyed_text m.key_id m.nonce ++ (tag_text tag ++ records_text m.records))

-- the number of a message's type; 0 where there are no bytes
abbrev pub type_of : List ℕ → ℕ
type_of [] = 0
type_of (first ∷ _) = first / 16

-- a message of registration
abbrev pub known_text : Tag → MessageValue → List ℕ
known_text tag (Registers m) = register_text tag m
known_text tag (Notifies m) = notify_text tag m

-- the same, by what tells of its tag; or why it isn't read
abbrev pub read_text : (MessageValue → Tag) → List ℕ → Result MessageValue ReadFault → List ℕ
read_text tag_of bytes (Ok m) = known_text (tag_of m) m
read_text tag_of bytes (Err f) = fault_text bytes f

-- any message: of Map-Requests, Map-Replies and Encapsulated Control Messages the kind alone
unfoldable pub message_text : (MessageValue → Tag) → List ℕ → List ℕ
message_text tag_of bytes =
    if type_of bytes == 1 then codes "map-request"
    else if type_of bytes == 2 then codes "map-reply"
    else if type_of bytes == 8 then codes "encapsulated"
    else read_text tag_of bytes (message_at bytes)

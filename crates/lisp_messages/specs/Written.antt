-- The written spelling of a message, as a function of its Authentication Data: each other free bit
-- is 0, and nothing stands after the records of a Map-Notify.
use Rattle.std.specs.Prelude.{ℕ, ◌+◌, ◌*◌, List, ◌∷◌, ◌++◌, length}
use Rattle.std.specs.List.{flat_map}
use Rattle.std.specs.Int.{w64, to_be_bytes}
use Rattle.lisp_records.specs.Record.{MapRecordValue, bit}
use Rattle.lisp_records.specs.Written.{written as written_record}
use Rattle.lisp_messages.specs.declared.kind.Kind.{Kind}
use Rattle.lisp_messages.specs.declared.kind.Kind.TheVariants as kinds
use Rattle.lisp_messages.specs.Message.{MapRegisterValue, MapNotifyValue, MessageValue, Registers, Notifies}
use Rattle.lisp_messages.specs.Spelling.{common, notify_type}

-- the number of a message type (RFC 9301 section 5.1)
abbrev pub kind_number : Kind → ℕ
kind_number kinds.Register = 3
kind_number kinds.Notify = 4
kind_number kinds.NotifyAck = 5

abbrev pub written_records : List MapRecordValue → List ℕ
written_records rs = flat_map written_record rs

-- the 32 bytes of a Map-Notify before its records
abbrev pub written_notify_head : MapNotifyValue → List ℕ → List ℕ
written_notify_head m auth = notify_type m.ack * 16 ∷ 0 ∷ 0 ∷ common (length m.records) m.nonce m.key_id auth

unfoldable pub written_notify : MapNotifyValue → List ℕ → List ℕ
written_notify m auth = written_notify_head m auth ++ written_records m.records

-- the first byte: type 3, P, S, and bit I, which is always set
abbrev pub register_kind : MapRegisterValue → ℕ
register_kind m = 48 + bit m.proxy * 8 + bit m.sec * 4 + 2

-- the third byte: E, T, a and M
abbrev pub register_flags : MapRegisterValue → ℕ
register_flags m = bit m.eid_notify * 16 + bit m.use_ttl * 8 + bit m.merge * 4 + bit m.want_notify

-- the 32 bytes of a Map-Register before its records
abbrev pub written_register_head : MapRegisterValue → List ℕ → List ℕ
written_register_head m auth = register_kind m ∷ 0 ∷ register_flags m ∷ common (length m.records) m.nonce m.key_id auth

-- xTR-ID and Site-ID
abbrev pub written_ids : MapRegisterValue → List ℕ
written_ids m = m.xtr ++ to_be_bytes w64 m.site

unfoldable pub written_register : MapRegisterValue → List ℕ → List ℕ
written_register m auth = written_register_head m auth ++ (written_records m.records ++ written_ids m)

-- any message
abbrev pub written : MessageValue → List ℕ → List ℕ
written (Registers m) auth = written_register m auth
written (Notifies m) auth = written_notify m auth

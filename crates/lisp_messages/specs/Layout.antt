-- A message where it lies among bytes: what it says but its records, and where these are (RFC 9301 sections 5.6 and 5.7).
use Rattle.std.specs.Prelude.{◌≡◌, ℕ, ◌≤◌, List, [], length, drop, Result, Ok, Err}
use Rattle.lisp_records.specs.Record.{MapRecordValue}
use Rattle.lisp_messages.specs.declared.fault.ReadFault.{ReadFault}
use Rattle.lisp_messages.specs.declared.layout.MessageLayout.{MessageLayout}
use Rattle.lisp_messages.specs.Message.{MessageValue, Registers, Notifies}
use Rattle.lisp_messages.specs.Meaning.{message_value}
use Rattle.lisp_messages.specs.Reading.{records_at, message_at}

-- the records of a message
abbrev pub records_in : MessageValue → List MapRecordValue
records_in (Registers m) = m.records
records_in (Notifies m) = m.records

-- a message with these records in place of its own
abbrev pub with_records : MessageValue → List MapRecordValue → MessageValue
with_records (Registers m) rs = Registers (record {
  proxy = m.proxy;
  sec = m.sec;
  eid_notify = m.eid_notify;
  use_ttl = m.use_ttl;
  merge = m.merge;
  want_notify = m.want_notify;
  nonce = m.nonce;
  key_id = m.key_id;
  records = rs;
  xtr = m.xtr;
  site = m.site;
})
with_records (Notifies m) rs = Notifies (record { ack = m.ack; nonce = m.nonce; key_id = m.key_id; records = rs })

-- the layout of the message that is read from the bytes: the records stand where it says
pub record IsLayout {A : Type 0} (bytes : List ℕ) (layout : MessageLayout A) : Type 0 where
  pub records : List MapRecordValue
  pub read : message_at bytes ≡ Ok (with_records (message_value layout.fields) records)
  pub each : records_at 0 layout.record_count (drop layout.records_at bytes) ≡ Ok (records, drop layout.records_end bytes)
  pub bare : records_in (message_value layout.fields) ≡ []
  pub begins : layout.records_at ≡ 32
  pub ends : layout.records_at ≤ layout.records_end
  pub within : layout.records_end ≤ length bytes

-- what is answered is the layout of a message, or the fault that reading it meets
abbrev pub LaysOut : {A : Type 0} → List ℕ → Result (MessageLayout A) ReadFault → Type 0
LaysOut bytes (Ok layout) = IsLayout bytes layout
LaysOut bytes (Err e) = message_at bytes ≡ Err e

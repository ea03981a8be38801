-- A Map-Reply where it lies among bytes: what it says but its records, and where these are (RFC 9301 section 5.4).
use Rattle.std.specs.Prelude.{◌≡◌, ℕ, List, [], length, drop, Result, Ok, Err}
use Rattle.lisp_records.specs.Record.{MapRecordValue}
use Rattle.lisp_requests.specs.declared.fault.RequestFault.{RequestFault}
use Rattle.lisp_requests.specs.declared.reply_parts.ReplyLayout.{ReplyLayout}
use Rattle.lisp_requests.specs.Reading.{items_at}
use Rattle.lisp_requests.specs.Reply.{MapReplyValue, map_reply_of, reply_at, reply_record_at}

-- what a layout says, with these records
abbrev pub with_records : ReplyLayout → List MapRecordValue → MapReplyValue
with_records layout records = record { probe = layout.probe; echo_nonce = layout.echo_nonce; sec = layout.sec; nonce = layout.nonce; records = records }

-- what a layout says stands in the first bytes
abbrev pub HasReplyFields : ReplyLayout → List ℕ → Type 0
HasReplyFields layout head = (records : List MapRecordValue) → with_records layout records ≡ map_reply_of head records

-- the layout of the Map-Reply that is read from the bytes: the records stand after the first 12, to the end
pub record IsReplyLayout (bytes : List ℕ) (layout : ReplyLayout) : Type 0 where
  pub records : List MapRecordValue
  pub read : reply_at bytes ≡ Ok (with_records layout records)
  pub count : length records ≡ layout.record_count
  pub place : layout.records_at ≡ 12
  pub each : items_at reply_record_at layout.record_count (drop layout.records_at bytes) ≡ Ok (records, [])

-- what is answered is the layout of a Map-Reply, or the fault that reading it meets
abbrev pub LaysOutReply : List ℕ → Result ReplyLayout RequestFault → Type 0
LaysOutReply bytes (Ok layout) = IsReplyLayout bytes layout
LaysOutReply bytes (Err e) = reply_at bytes ≡ Err e

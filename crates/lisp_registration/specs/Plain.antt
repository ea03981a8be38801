-- What is told to C of what was read: the same in plain numbers.
use Rattle.std.specs.Prelude.{ℕ, ◌++◌, length, map, replicate, List, Option, Some, None}
use Rattle.lisp_records.specs.declared.address.Addr.{Addr}
use Rattle.lisp_records.specs.declared.address.Addr.TheVariants.{V4, V6}
use Rattle.lisp_records.specs.declared.layout.RecordLayout.{RecordLayout}
use Rattle.lisp_records.specs.declared.locator.Locator.{Locator}
use Rattle.lisp_records.specs.Address.{afi, family, PrefixValue}
use Rattle.lisp_records.specs.Record.{MapRecordValue, bit}
use Rattle.lisp_messages.specs.declared.layout.MessageLayout.{MessageLayout}
use Rattle.lisp_messages.specs.Meaning.{message_value}
use Rattle.lisp_messages.specs.Message.{MessageValue, Registers, Notifies}
use Rattle.lisp_messages.specs.Spelling.{notify_type}
use Rattle.lisp_registration.specs.declared.address.PlainAddress.{PlainAddress}
use Rattle.lisp_registration.specs.declared.record.PlainLocator.{PlainLocator}
use Rattle.lisp_registration.specs.declared.record.PlainRecord.{PlainRecord}
use Rattle.lisp_registration.specs.declared.message.PlainMessage.{PlainMessage}
use Rattle.lisp_requests.specs.declared.layout.RequestLayout.{RequestLayout}
use Rattle.lisp_requests.specs.declared.reply_parts.ReplyLayout.{ReplyLayout}
use Rattle.lisp_requests.specs.Encapsulated.{EncapsulatedValue, message_place}
use Rattle.lisp_requests.specs.Reply.{MapReplyValue}
use Rattle.lisp_registration.specs.declared.address.PlainPrefix.{PlainPrefix}
use Rattle.lisp_registration.specs.declared.requests.PlainEncapsulated.{PlainEncapsulated}
use Rattle.lisp_registration.specs.declared.requests.PlainReply.{PlainReply}
use Rattle.lisp_registration.specs.declared.requests.PlainRequest.{PlainRequest}

-- the bytes of an address, and zeros up to 16
abbrev pub sixteen : Addr → List ℕ
sixteen (V4 bytes) = bytes ++ replicate 12 0
sixteen (V6 bytes) = bytes

abbrev pub plain_address : Addr → PlainAddress
plain_address a = record { family = afi (family a); octets = sixteen a }

-- no address
abbrev pub no_address : PlainAddress
no_address = record { family = 0; octets = replicate 16 0 }

-- a locator that ends at a place
abbrev pub plain_locator : Locator → ℕ → PlainLocator
plain_locator l end = record {
  priority = l.priority;
  weight = l.weight;
  m_priority = l.m_priority;
  m_weight = l.m_weight;
  local = bit l.local;
  probe = bit l.probe;
  reachable = bit l.reachable;
  address = plain_address l.addr;
  end = end;
}

-- a record that counts so many locators, with the places of its first locator and of its end
abbrev pub plain_record_at : MapRecordValue → ℕ → ℕ → ℕ → PlainRecord
plain_record_at m count at end = record {
  ttl = m.ttl;
  version = m.version;
  act = m.act;
  authoritative = bit m.authoritative;
  mask_len = m.eid.mask_len;
  locator_count = count;
  eid = plain_address m.eid.addr;
  locators_at = at;
  end = end;
}

abbrev pub plain_record : {A : Type 0} → RecordLayout A → PlainRecord
plain_record layout = plain_record_at layout.fields layout.locator_count layout.locators_at layout.end

-- no record
abbrev pub no_record : PlainRecord
no_record = record { ttl = 0; version = 0; act = 0; authoritative = 0; mask_len = 0; locator_count = 0; eid = no_address; locators_at = 0; end = 0 }

-- a record that is in no message, and its locators
abbrev pub plain_mapping : MapRecordValue → PlainRecord
plain_mapping m = plain_record_at m (length m.locators) 0 0

abbrev pub plain_locators : List Locator → List PlainLocator
plain_locators ls = map (λ l. plain_locator l 0) ls

-- what a message says but its records, with their count and their places
abbrev pub plain_fields : MessageValue → ℕ → ℕ → ℕ → PlainMessage
plain_fields (Registers m) count at end = record {
  nonce = m.nonce;
  site = m.site;
  xtr = m.xtr;
  kind = 3;
  key_id = m.key_id;
  proxy = bit m.proxy;
  sec = bit m.sec;
  eid_notify = bit m.eid_notify;
  use_ttl = bit m.use_ttl;
  merge = bit m.merge;
  want_notify = bit m.want_notify;
  record_count = count;
  records_at = at;
  records_end = end;
}
plain_fields (Notifies m) count at end = record {
  nonce = m.nonce;
  site = 0;
  xtr = replicate 16 0;
  kind = notify_type m.ack;
  key_id = m.key_id;
  proxy = 0;
  sec = 0;
  eid_notify = 0;
  use_ttl = 0;
  merge = 0;
  want_notify = 0;
  record_count = count;
  records_at = at;
  records_end = end;
}

abbrev pub plain_message : {A : Type 0} → MessageLayout A → PlainMessage
plain_message layout = plain_fields (message_value layout.fields) layout.record_count layout.records_at layout.records_end

-- ---- Map-Requests, Map-Replies and encapsulated Map-Requests (RFC 9301 sections 5.2, 5.4 and 5.8)

-- a Source EID, or none
abbrev pub plain_source : Option Addr → PlainAddress
plain_source None = no_address
plain_source (Some a) = plain_address a

abbrev pub plain_request : RequestLayout → PlainRequest
plain_request layout = record {
  nonce = layout.nonce;
  authoritative = bit layout.authoritative;
  probe = bit layout.probe;
  smr = bit layout.smr;
  pitr = bit layout.pitr;
  smr_invoked = bit layout.smr_invoked;
  local = bit layout.local;
  no_reply = bit layout.no_reply;
  itr_rloc_count = layout.rloc_count;
  eid_count = layout.eid_count;
  source = plain_source layout.source;
  itr_rlocs_at = layout.rlocs_at;
  eids_at = layout.eids_at;
  end = layout.end;
}

abbrev pub plain_prefix : PrefixValue → PlainPrefix
plain_prefix p = record { mask_len = p.mask_len; address = plain_address p.addr }

abbrev pub plain_reply : MapReplyValue → PlainReply
plain_reply m = record { nonce = m.nonce; probe = bit m.probe; echo_nonce = bit m.echo_nonce; sec = bit m.sec; record_count = length m.records; records_at = 12 }

-- the same of its layout
abbrev pub plain_layout : ReplyLayout → PlainReply
plain_layout layout = record { nonce = layout.nonce; probe = bit layout.probe; echo_nonce = bit layout.echo_nonce; sec = bit layout.sec; record_count = layout.record_count; records_at = layout.records_at }

abbrev pub plain_encapsulated : List ℕ → EncapsulatedValue → PlainEncapsulated
plain_encapsulated bytes m = record {
  source = plain_address m.source;
  destination = plain_address m.destination;
  port = m.port;
  message_at = message_place bytes m.source;
  message_length = length m.message;
}

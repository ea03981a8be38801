-- What plain numbers say that C gives to be written: a message, or why it is none.
use Rattle.std.specs.Prelude.{◌≡◌, ◌≢◌, ℕ, ◌==◌, nat_lt, nat_le, Bool, false, true, not, List, [], ◌∷◌, length, take, drop, Option, Some, None, Result, Ok, Err, if◌then◌else◌, ⊤}
use Rattle.lisp_records.specs.declared.address.Addr.{Addr}
use Rattle.lisp_records.specs.declared.address.Addr.TheVariants.{V4, V6}
use Rattle.lisp_records.specs.declared.locator.Locator.{Locator}
use Rattle.lisp_records.specs.Address.{max_len, prefix_around, PrefixValue}
use Rattle.lisp_records.specs.Record.{MapRecordValue}
use Rattle.lisp_records.specs.Result.{◌>>=◌}
use Rattle.lisp_messages.specs.declared.fault.ReadFault.{ReadFault}
use Rattle.lisp_messages.specs.declared.kind.Kind.{Kind}
use Rattle.lisp_messages.specs.declared.kind.Kind.TheVariants as kinds
use Rattle.lisp_messages.specs.Authentic.{signed}
use Rattle.lisp_messages.specs.Message.{MapRegisterValue, MapNotifyValue, MessageValue, Registers, Notifies}
use Rattle.lisp_messages.specs.Reading.{kind_of}
use Rattle.lisp_messages.specs.Written.{written}
use Rattle.lisp_registration.specs.declared.address.PlainAddress.{PlainAddress}
use Rattle.lisp_registration.specs.declared.fault.WriteFault.{WriteFault}
use Rattle.lisp_registration.specs.declared.fault.WriteFault.TheVariants.{Field, Counts, OutOfMemory}
use Rattle.lisp_registration.specs.declared.record.PlainLocator.{PlainLocator}
use Rattle.lisp_registration.specs.declared.message.PlainMessage.{PlainMessage}
use Rattle.lisp_registration.specs.declared.record.PlainRecord.{PlainRecord}
use Rattle.lisp_requests.specs.Encapsulated.{EncapsulatedValue, written_encapsulated}
use Rattle.lisp_requests.specs.Reply.{MapReplyValue, written_reply}
use Rattle.lisp_requests.specs.Request.{MapRequestValue, written_request}
use Rattle.lisp_registration.specs.declared.address.PlainPrefix.{PlainPrefix}
use Rattle.lisp_registration.specs.declared.requests.PlainEncapsulated.{PlainEncapsulated}
use Rattle.lisp_registration.specs.declared.requests.PlainReply.{PlainReply}
use Rattle.lisp_registration.specs.declared.requests.PlainRequest.{PlainRequest}

-- what a function answers, seen by view, is what is found, except that out of memory may come at any time
abbrev pub Makes : {X Y : Type 0} → (X → Y) → Result X WriteFault → Result Y WriteFault → Type 0
Makes view (Ok x) found = found ≡ Ok (view x)
Makes view (Err e) found = e ≢ OutOfMemory → found ≡ Err e

-- the fault, where there is nothing
abbrev pub or_fault : {X E : Type 0} → E → Option X → Result X E
or_fault fault (Some x) = Ok x
or_fault fault None = Err fault

-- the next step, where there is something
abbrev pub and_then : {X Y : Type 0} → Option X → (X → Option Y) → Option Y
and_then (Some x) f = f x
and_then None f = None

-- a flag is set by each number but 0
abbrev pub is_on : ℕ → Bool
is_on flag = not (flag == 0)

-- what each item says, one after the other
unfoldable pub each_in : {X Y : Type 0} → (X → Option Y) → List X → Result (List Y) WriteFault
each_in says [] = Ok []
each_in says (x ∷ xs) = do
  first ← or_fault Field (says x)
  others ← each_in says xs
  Ok (first ∷ others)

abbrev pub address_in : PlainAddress → Option Addr
address_in a = if a.family == 1 then Some (V4 (take 4 a.octets)) else (if a.family == 2 then Some (V6 a.octets) else None)

abbrev pub locator_of : PlainLocator → Addr → Locator
locator_of l addr = record {
  priority = l.priority;
  weight = l.weight;
  m_priority = l.m_priority;
  m_weight = l.m_weight;
  local = is_on l.local;
  probe = is_on l.probe;
  reachable = is_on l.reachable;
  addr = addr;
}

abbrev pub locator_in : PlainLocator → Option Locator
locator_in l = and_then (address_in l.address) (λ addr. Some (locator_of l addr))

-- a mask that fits the address makes a block
abbrev pub block_around : Addr → ℕ → Option PrefixValue
block_around a mask_len = if nat_le mask_len (max_len a) then Some (prefix_around a mask_len) else None

abbrev pub block_in : PlainRecord → Option PrefixValue
block_in r = and_then (address_in r.eid) (λ a. block_around a r.mask_len)

-- the same of an EID-Prefix that is asked for
abbrev pub prefix_in : PlainPrefix → Option PrefixValue
prefix_in p = and_then (address_in p.address) (λ a. block_around a p.mask_len)

abbrev pub record_of : PlainRecord → PrefixValue → List Locator → MapRecordValue
record_of r eid ls = record { ttl = r.ttl; act = r.act; authoritative = is_on r.authoritative; version = r.version; eid = eid; locators = ls }

-- a record of these locators
abbrev pub record_in : PlainRecord → List PlainLocator → Result MapRecordValue WriteFault
record_in r ls = do
  eid ← or_fault Field (block_in r)
  own ← each_in locator_in ls
  if nat_lt r.act 8 then (if nat_lt r.version 4096 then Ok (record_of r eid own) else Err Field) else Err Field

-- so many of the locators in front, and those behind
abbrev pub shared_out : ℕ → List PlainLocator → Result (List PlainLocator × List PlainLocator) WriteFault
shared_out count ls = if nat_lt (length ls) count then Err Counts else Ok (take count ls, drop count ls)

-- records, which share out the locators among them
unfoldable pub records_in : List PlainRecord → List PlainLocator → Result (List MapRecordValue) WriteFault
records_in [] [] = Ok []
records_in [] (l ∷ ls) = Err Counts
records_in (r ∷ rs) ls = do
  shares ← shared_out r.locator_count ls
  first ← record_in r shares.0
  others ← records_in rs shares.1
  Ok (first ∷ others)

abbrev pub register_in : PlainMessage → List MapRecordValue → MapRegisterValue
register_in m records = record {
  proxy = is_on m.proxy;
  sec = is_on m.sec;
  eid_notify = is_on m.eid_notify;
  use_ttl = is_on m.use_ttl;
  merge = is_on m.merge;
  want_notify = is_on m.want_notify;
  nonce = m.nonce;
  key_id = m.key_id;
  records = records;
  xtr = m.xtr;
  site = m.site;
}

abbrev pub notify_in : Bool → PlainMessage → List MapRecordValue → MapNotifyValue
notify_in ack m records = record { ack = ack; nonce = m.nonce; key_id = m.key_id; records = records }

-- a message of a type (RFC 9301 section 5.1) and of these records
abbrev pub kind_in : Kind → PlainMessage → List MapRecordValue → MessageValue
kind_in kinds.Register m records = Registers (register_in m records)
kind_in kinds.Notify m records = Notifies (notify_in false m records)
kind_in kinds.NotifyAck m records = Notifies (notify_in true m records)

-- the type, or the fault of one that isn't served
abbrev pub kind_or_fault : Result Kind ReadFault → Result Kind WriteFault
kind_or_fault (Ok kind) = Ok kind
kind_or_fault (Err e) = Err Field

-- as many records as a message counts
abbrev pub few_records_in : List PlainRecord → List PlainLocator → Result (List MapRecordValue) WriteFault
few_records_in rs ls = if nat_lt 255 (length rs) then Err Counts else records_in rs ls

abbrev pub message_in : PlainMessage → List PlainRecord → List PlainLocator → Result MessageValue WriteFault
message_in m rs ls = do
  kind ← kind_or_fault (kind_of m.kind)
  records ← few_records_in rs ls
  Ok (kind_in kind m records)

-- the written spelling of a message, with its tag under a secret
abbrev pub datagram_in : PlainMessage → List PlainRecord → List PlainLocator → List ℕ → Result (List ℕ) WriteFault
datagram_in m rs ls secret = do
  x ← message_in m rs ls
  Ok (signed secret (written x))

-- ---- a Map-Request (RFC 9301 section 5.2)

-- there are from 1 to so many items
abbrev pub counted : {X : Type 0} → ℕ → List X → Result ⊤ WriteFault
counted most xs = if length xs == 0 then Err Counts else (if nat_lt most (length xs) then Err Counts else Ok tt)

-- the Source EID, which is none of family 0
abbrev pub source_in : PlainAddress → Result (Option Addr) WriteFault
source_in a = if a.family == 0 then Ok None else (or_fault Field (address_in a) >>= λ addr. Ok (Some addr))

abbrev pub request_of : PlainRequest → Option Addr → List Addr → List PrefixValue → MapRequestValue
request_of m source itr_rlocs eids = record {
  authoritative = is_on m.authoritative;
  probe = is_on m.probe;
  smr = is_on m.smr;
  pitr = is_on m.pitr;
  smr_invoked = is_on m.smr_invoked;
  local = is_on m.local;
  no_reply = is_on m.no_reply;
  nonce = m.nonce;
  source = source;
  itr_rlocs = itr_rlocs;
  eids = eids;
}

abbrev pub request_in : PlainRequest → List PlainAddress → List PlainPrefix → Result MapRequestValue WriteFault
request_in m itr_rlocs eids = do
  _ ← counted 32 itr_rlocs
  _ ← counted 255 eids
  source ← source_in m.source
  addrs ← each_in address_in itr_rlocs
  prefixes ← each_in prefix_in eids
  Ok (request_of m source addrs prefixes)

-- its written spelling
abbrev pub request_bytes_in : PlainRequest → List PlainAddress → List PlainPrefix → Result (List ℕ) WriteFault
request_bytes_in m itr_rlocs eids = request_in m itr_rlocs eids >>= λ x. Ok (written_request x)

-- ---- a Map-Reply (section 5.4)

abbrev pub reply_in : PlainReply → List MapRecordValue → MapReplyValue
reply_in m records = record { probe = is_on m.probe; echo_nonce = is_on m.echo_nonce; sec = is_on m.sec; nonce = m.nonce; records = records }

-- its written spelling, of these records, which share out the locators among them
abbrev pub reply_bytes_in : PlainReply → List PlainRecord → List PlainLocator → Result (List ℕ) WriteFault
reply_bytes_in m rs ls = do
  records ← few_records_in rs ls
  Ok (written_reply (reply_in m records))

-- ---- an encapsulated message (section 5.8)

abbrev pub encapsulated_of : PlainEncapsulated → Addr → Addr → List ℕ → EncapsulatedValue
encapsulated_of m source destination message = record { source = source; destination = destination; port = m.port; message = message }

-- both addresses are of one family, and a datagram carries the message
abbrev pub encapsulated_in : PlainEncapsulated → List ℕ → Result EncapsulatedValue WriteFault
encapsulated_in m message = do
  source ← or_fault Field (address_in m.source)
  destination ← or_fault Field (address_in m.destination)
  if m.source.family == m.destination.family then (if nat_lt 65507 (length message) then Err Field else Ok (encapsulated_of m source destination message)) else Err Field

-- its written spelling
abbrev pub encapsulated_bytes_in : PlainEncapsulated → List ℕ → Result (List ℕ) WriteFault
encapsulated_bytes_in m message = encapsulated_in m message >>= λ x. Ok (written_encapsulated x)

-- What is asked about an EID-Prefix (RFC 9301 sections 5.2, 5.3 and 5.8), and what answers it (sections 5.4 and 5.5).
use Rattle.std.specs.Prelude.{ℕ, nat_le, ◌==◌, Bool, true, false, not, ◌&&◌, ◌||◌, List, [], ◌∷◌, replicate, Option, Some, None, Result, Ok, Err, if◌then◌else◌}
use Rattle.std.specs.List.{list_any, list_all}
use Rattle.lisp_records.specs.declared.address.Addr.{Addr}
use Rattle.lisp_records.specs.declared.address.Addr.TheVariants.{V4, V6}
use Rattle.lisp_records.specs.declared.locator.Locator.{Locator}
use Rattle.lisp_records.specs.Address.{PrefixValue, covers, max_len, prefix_around}
use Rattle.lisp_records.specs.Record.{MapRecordValue}
use Rattle.lisp_requests.specs.declared.fault.RequestFault.{RequestFault}
use Rattle.lisp_requests.specs.Encapsulated.{EncapsulatedValue, written_encapsulated}
use Rattle.lisp_requests.specs.Reply.{MapReplyValue, reply_at}
use Rattle.lisp_requests.specs.Request.{MapRequestValue, written_request}

-- a look: the EID-Prefix that is asked for, the ITR-RLOC and the UDP port at which the Map-Reply is awaited, the nonce
pub record LookValue : Type 0 where
  pub eid : PrefixValue
  pub from : Addr
  pub port : ℕ
  pub nonce : ℕ

-- its Map-Request: one ITR-RLOC, one record, no Source EID, all flags clear (RFC 9301 section 5.2)
abbrev pub request_of : LookValue → MapRequestValue
request_of look = record {
  authoritative = false;
  probe = false;
  smr = false;
  pitr = false;
  smr_invoked = false;
  local = false;
  no_reply = false;
  nonce = look.nonce;
  source = None;
  itr_rlocs = look.from ∷ [];
  eids = look.eid ∷ [];
}

-- the inner source: the ITR-RLOC; to an EID of the other family the unspecified address, since both are of one family
abbrev pub inner_source : Addr → Addr → Addr
inner_source (V4 from) (V4 _) = V4 from
inner_source (V6 from) (V6 _) = V6 from
inner_source (V4 _) (V6 _) = V6 (replicate 16 0)
inner_source (V6 _) (V4 _) = V4 (replicate 4 0)

-- what stands around it: the inner destination is the EID, the inner UDP source port that at which the Map-Reply is awaited (section 5.8)
abbrev pub encapsulated_of : LookValue → EncapsulatedValue
encapsulated_of look = record {
  source = inner_source look.from look.eid.addr;
  destination = look.eid.addr;
  port = look.port;
  message = written_request (request_of look);
}

-- the Encapsulated Map-Request, as it is sent
abbrev pub datagram_of : LookValue → List ℕ
datagram_of look = written_encapsulated (encapsulated_of look)

-- ---- what answers it

-- what was read, where it is a Map-Reply with the nonce
abbrev pub with_nonce : ℕ → Result MapReplyValue RequestFault → Option MapReplyValue
with_nonce nonce (Ok reply) = if reply.nonce == nonce then Some reply else None
with_nonce nonce (Err _) = None

-- the bytes are a Map-Reply with the nonce of the look; that Map-Reply
abbrev pub answers : LookValue → List ℕ → Option MapReplyValue
answers look bytes = with_nonce look.nonce (reply_at bytes)

-- what the records tell of: the EID-Prefix, where one covers it; else its first address, as a Map-Server does where it can't tell of
-- the whole (section 8.3)
abbrev pub told_of : PrefixValue → List MapRecordValue → PrefixValue
told_of eid records = if list_any (λ m. covers m.eid eid) records then eid else prefix_around eid.addr (max_len eid.addr)

-- no record that covers an EID-Prefix has a longer one
abbrev pub is_longest : PrefixValue → List MapRecordValue → MapRecordValue → Bool
is_longest eid records m = list_all (λ other. not (covers other.eid eid) || nat_le other.eid.mask_len m.eid.mask_len) records

abbrev pub has_locators : List Locator → Bool
has_locators [] = false
has_locators (_ ∷ _) = true

-- the longest record that covers an EID-Prefix has a locator
abbrev pub is_mapped : PrefixValue → List MapRecordValue → Bool
is_mapped eid records = list_any (λ m. covers m.eid eid && (has_locators m.locators && is_longest eid records m)) records

abbrev pub is_positive : PrefixValue → MapReplyValue → Bool
is_positive eid reply = is_mapped (told_of eid reply.records) reply.records

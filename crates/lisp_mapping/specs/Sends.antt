-- What a node sends for a Map-Request (RFC 9301 sections 5.4, 8.2 and 8.3).
use Rattle.std.specs.Prelude.{ℕ, nat_lt, Bool, false, List, length, [], ◌∷◌, ◌++◌, if◌then◌else◌}
use Rattle.std.specs.List.{list_any}
use Rattle.lisp_records.specs.declared.address.Addr.{Addr}
use Rattle.lisp_records.specs.Address.{addr_eq}
use Rattle.lisp_records.specs.Record.{MapRecordValue}
use Rattle.lisp_requests.specs.Encapsulated.{control_port}
use Rattle.lisp_requests.specs.Reply.{MapReplyValue, written_reply}
use Rattle.lisp_replies.specs.declared.reply.Negative.{Negative}
use Rattle.lisp_replies.specs.declared.reply.Reply.{Reply}
use Rattle.lisp_replies.specs.declared.reply.Reply.TheVariants as replies
use Rattle.lisp_mapping.specs.Asked.{AskedValue, is_router}

-- a datagram: whereto, and its bytes
pub record DatagramValue : Type 0 where
  pub to : Addr
  pub port : ℕ
  pub bytes : List ℕ

-- a Map-Reply of these records, with the nonce that was asked with, to the ITR-RLOC and port of the Map-Request
abbrev pub reply_of : AskedValue → List MapRecordValue → MapReplyValue
reply_of asked records = record { probe = asked.probe; echo_nonce = false; sec = false; nonce = asked.nonce; records = records }

abbrev pub replied : AskedValue → List MapRecordValue → DatagramValue
replied asked records = record { to = asked.to; port = asked.port; bytes = written_reply (reply_of asked records) }

-- the record of a negative Map-Reply: ACT 1, Natively-Forward, no locators; a router's is authoritative
abbrev pub negative_record : AskedValue → Negative → MapRecordValue
negative_record asked hole = record { ttl = hole.ttl; act = 1; authoritative = is_router asked.of; version = 0; eid = hole.eid; locators = [] }

-- a Map-Request that goes on to a router, as it came
abbrev pub forwarded : Addr → List ℕ → DatagramValue
forwarded to bytes = record { to = to; port = control_port; bytes = bytes }

-- a Map-Request went on to the router already
abbrev pub has_gone : List Addr → Addr → Bool
has_gone gone to = list_any (λ addr. addr_eq addr to) gone

-- what is sent for one EID-Prefix, where the Map-Request went on to these routers already: no more records than a message counts
abbrev pub sent_for : {A : Type 0} → AskedValue → List ℕ → List Addr → Reply A → List DatagramValue
sent_for asked bytes gone (replies.Records records) = if nat_lt (length records) 256 then (replied asked records ∷ []) else []
sent_for asked bytes gone (replies.Negative hole) = replied asked (negative_record asked hole ∷ []) ∷ []
sent_for asked bytes gone (replies.Forward to) = if has_gone gone to then [] else (forwarded to bytes ∷ [])
sent_for asked bytes gone replies.Silent = []

-- to which it has gone then
abbrev pub gone_then : {A : Type 0} → List Addr → Reply A → List Addr
gone_then gone (replies.Records records) = gone
gone_then gone (replies.Negative hole) = gone
gone_then gone (replies.Forward to) = if has_gone gone to then gone else (gone ++ to ∷ [])
gone_then gone replies.Silent = gone

abbrev pub gone_after : {A : Type 0} → List Addr → List (Reply A) → List Addr
gone_after gone [] = gone
gone_after gone (reply ∷ more) = gone_after (gone_then gone reply) more

-- what is sent for all, in their order
abbrev pub sends : {A : Type 0} → AskedValue → List ℕ → List Addr → List (Reply A) → List DatagramValue
sends asked bytes gone [] = []
sends asked bytes gone (reply ∷ more) = sent_for asked bytes gone reply ++ sends asked bytes (gone_then gone reply) more

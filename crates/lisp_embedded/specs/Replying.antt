-- What is sent for an EID-Prefix that a Map-Request asks for (RFC 9301 sections 5.4, 8.2 and 8.3).
use Rattle.std.specs.Prelude.{◌≡◌, ℕ, ⊤, Bool, true, false, List, [], ◌∷◌}
use Rattle.lisp_records.specs.Parts.{fits_message}
use Rattle.lisp_records.specs.Record.{MapRecordValue}
use Rattle.lisp_requests.specs.Reply.{MapReplyValue, written_reply}
use Rattle.lisp_replies.specs.declared.reply.Negative.{Negative}
use Rattle.lisp_replies.specs.declared.reply.Reply.{Reply}
use Rattle.lisp_replies.specs.declared.reply.Reply.TheVariants.{Records, Negative as NegativeReply, Forward, Silent}
use Rattle.lisp_mapping.specs.Asked.{AskedValue, is_router}
use Rattle.lisp_mapping.specs.Sends.{DatagramValue, forwarded, sent_for}
use Rattle.lisp_mapping.specs.declared.replier.Replier.{Replier}
use Rattle.lisp_mapping.specs.Handling.{outcome_of}
use Rattle.lisp_mapping.specs.declared.outcome.Outcome.{Outcome}
use Rattle.lisp_mapping.specs.declared.outcome.Outcome.TheVariants as outcomes

-- what is said of the EID-Prefix, and the bytes of the Map-Reply; none where none is sent
pub record HostedReplyValue : Type 0 where
  pub outcome : Outcome
  pub bytes : List ℕ

-- a Map-Reply with the nonce of the Map-Request; P where that is a probe
abbrev pub map_reply_of : Bool → ℕ → List MapRecordValue → MapReplyValue
map_reply_of probe nonce records = record { probe = probe; echo_nonce = false; sec = false; nonce = nonce; records = records }

-- the record of a negative Map-Reply: ACT 1, Natively-Forward, no locators; a router's is authoritative
abbrev pub negative_of : Replier → Negative → MapRecordValue
negative_of of hole = record { ttl = hole.ttl; act = 1; authoritative = is_router of; version = 0; eid = hole.eid; locators = [] }

-- the bytes of the Map-Reply
abbrev pub spelled_reply : {A : Type 0} → Replier → Bool → ℕ → Reply A → List ℕ
spelled_reply of probe nonce (Records records) = written_reply (map_reply_of probe nonce records)
spelled_reply of probe nonce (NegativeReply hole) = written_reply (map_reply_of probe nonce (negative_of of hole ∷ []))
spelled_reply of probe nonce (Forward to) = []
spelled_reply of probe nonce Silent = []

-- what is sent is what a reply says that is one for the EID-Prefix
abbrev pub Says : {A : Type 0} → (Reply A → Type 0) → Replier → Bool → ℕ → HostedReplyValue → Type 0
Says {A} IsFor of probe nonce hosted = (reply : Reply A) × IsFor reply × (hosted ≡ record { outcome = outcome_of reply; bytes = spelled_reply of probe nonce reply })

-- ---- laws

-- one message can carry its records
abbrev pub Fits : {A : Type 0} → Reply A → Type 0
Fits (Records records) = fits_message records ≡ true
Fits (NegativeReply hole) = ⊤
Fits (Forward to) = ⊤
Fits Silent = ⊤

-- the most bytes of a Map-Reply: 12, and those of its records
abbrev pub reply_room : ℕ
reply_room = 16396

-- the datagrams of what is said, for a Map-Request that came as these bytes: the Map-Reply, to where it was asked from; or those bytes, to a router
abbrev pub sent_of : AskedValue → List ℕ → Outcome → List ℕ → List DatagramValue
sent_of asked bytes (outcomes.Replied count) reply = record { to = asked.to; port = asked.port; bytes = reply } ∷ []
sent_of asked bytes (outcomes.Negative eid) reply = record { to = asked.to; port = asked.port; bytes = reply } ∷ []
sent_of asked bytes (outcomes.Forwarded to) reply = forwarded to bytes ∷ []
sent_of asked bytes outcomes.Silent reply = []

-- they are those that a node sends by itself
abbrev pub SendsTheSame : Type 0 → Type 0
SendsTheSame A = (asked : AskedValue) (bytes : List ℕ) (reply : Reply A) → Fits reply → sent_of asked bytes (outcome_of reply) (spelled_reply asked.of asked.probe asked.nonce reply) ≡ sent_for asked bytes [] reply

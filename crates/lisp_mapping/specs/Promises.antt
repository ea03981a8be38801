-- What is promised of Map-Requests that are taken, of what is sent for them, and of what a node does for a datagram with one.
use Rattle.std.specs.Prelude.{◌≡◌, ◌⊎◌, ℕ, ◌<◌, true, List, [], Ok, length, Bool}
use Rattle.std.specs.List.{All, list_any}
use Rattle.lisp_records.specs.declared.address.Addr.{Addr}
use Rattle.lisp_records.specs.declared.address.Family.{Family}
use Rattle.lisp_records.specs.Address.{PrefixValue, holds, family}
use Rattle.lisp_records.specs.Record.{MapRecordValue}
use Rattle.lisp_requests.specs.Request.{MapRequestValue}
use Rattle.lisp_replies.specs.declared.reply.Reply.{Reply}
use Rattle.lisp_mapping.specs.Asked.{AskedValue, asked_of, encapsulated_asked, router_asked}
use Rattle.lisp_mapping.specs.Sends.{DatagramValue, forwarded, replied, sends}
use Rattle.lisp_mapping.specs.declared.replier.Replier.{Replier}
use Rattle.lisp_policy.specs.Site.{SiteValue}
use Rattle.lisp_records.specs.Row.{RowValue}
use Rattle.lisp_replies.specs.Own.{IsOwnReply}
use Rattle.lisp_replies.specs.Reply.{IsReply}
use Rattle.lisp_mapping.specs.declared.replier.Replier.TheVariants.{MapServer}
use Rattle.lisp_mapping.specs.Handling.{HandledValue, Handles, probed}

-- where a Map-Request is taken, one of the prefixes has the address to which Map-Replies go
abbrev pub RepliesAreListed : List PrefixValue → Type 0
RepliesAreListed resolve = (of : Replier) (own : Family) (port : ℕ) (m : MapRequestValue) (asked : AskedValue) → asked_of of resolve own port m ≡ Ok asked → list_any (λ p. holds p asked.to) resolve ≡ true

-- a datagram is a Map-Reply to where the Map-Request came from, or the datagram that came, on its way to a router
abbrev pub IsReplyOrGoesOn : AskedValue → List ℕ → DatagramValue → Type 0
IsReplyOrGoesOn asked bytes d = ((records : List MapRecordValue) × (length records < 256) × (d ≡ replied asked records)) ⊎ ((to : Addr) × (d ≡ forwarded to bytes))

-- each that is sent is so
abbrev pub RepliesOrGoesOn : Type 0 → Type 0
RepliesOrGoesOn A = (asked : AskedValue) (bytes : List ℕ) (replies : List (Reply A)) → All (IsReplyOrGoesOn asked bytes) (sends asked bytes [] replies)

-- it was asked from an ITR-RLOC that one of the prefixes has, and each datagram is a Map-Reply to there, or the datagram that came, on its way
-- to a router
pub record StaysListed (resolve : List PrefixValue) (bytes : List ℕ) (handled : HandledValue) : Type 0 where
  pub listed : list_any (λ p. holds p handled.asked.to) resolve ≡ true
  pub each : All (IsReplyOrGoesOn handled.asked bytes) handled.datagrams

-- what a Map-Server does is so
abbrev pub MapServersStayListed : Type 0 → Type 0
MapServersStayListed A = (rows : List RowValue) (sites : List SiteValue) (starting : Bool) (now : ℕ) (resolve : List PrefixValue) (own : Family) (bytes : List ℕ) (handled : HandledValue)
    → Handles {A = A} (λ _ eid reply. IsReply rows sites eid starting now reply) bytes (encapsulated_asked MapServer resolve own bytes) (Ok handled) → StaysListed resolve bytes handled

-- what a router does is so
abbrev pub RoutersStayListed : Type 0 → Type 0
RoutersStayListed A = (database : List MapRecordValue) (own : Addr) (resolve : List PrefixValue) (port : ℕ) (bytes : List ℕ) (handled : HandledValue)
    → Handles {A = A} (λ asked eid reply. IsOwnReply database eid (probed asked own) reply) bytes (router_asked resolve (family own) port bytes) (Ok handled) → StaysListed resolve bytes handled

-- What a node does for a datagram with a Map-Request (RFC 9301 sections 5.2 to 5.5, 8.2 and 8.3).
use Rattle.std.specs.Prelude.{◌≡◌, ◌≢◌, ℕ, List, [], ◌∷◌, length, map, Option, Some, None, Result, Ok, Err, if◌then◌else◌}
use Rattle.lisp_records.specs.declared.address.Addr.{Addr}
use Rattle.lisp_records.specs.Address.{PrefixValue}
use Rattle.lisp_replies.specs.declared.reply.Reply.{Reply}
use Rattle.lisp_replies.specs.declared.reply.Reply.TheVariants as replies
use Rattle.lisp_requests.specs.declared.fault.RequestFault.TheVariants.{OutOfMemory}
use Rattle.lisp_mapping.specs.Asked.{AskedValue}
use Rattle.lisp_mapping.specs.Sends.{DatagramValue, sends}
use Rattle.lisp_mapping.specs.declared.unasked.Unasked.{Unasked}
use Rattle.lisp_mapping.specs.declared.unasked.Unasked.TheVariants.{Request}
use Rattle.lisp_mapping.specs.declared.outcome.Outcome.{Outcome}
use Rattle.lisp_mapping.specs.declared.outcome.Outcome.TheVariants as outcomes

-- what is said of a reply: how many records it has, for which prefix nobody is there, to which router the Map-Request goes on, or nothing
abbrev pub outcome_of : {A : Type 0} → Reply A → Outcome
outcome_of (replies.Records records) = outcomes.Replied (length records)
outcome_of (replies.Negative hole) = outcomes.Negative hole.eid
outcome_of (replies.Forward to) = outcomes.Forwarded to
outcome_of replies.Silent = outcomes.Silent

-- what a node does: what was asked, what is said of each EID-Prefix in their order, and the datagrams that are sent
pub record HandledValue : Type 0 where
  pub asked : AskedValue
  pub outcomes : List Outcome
  pub datagrams : List DatagramValue

-- each EID-Prefix is replied with what the node says of it, in their order
abbrev pub RepliesEach : {A : Type 0} → (PrefixValue → Reply A → Type 0) → List PrefixValue → List (Reply A) → Type 0
RepliesEach Says [] replies = replies ≡ []
RepliesEach {A} Says (eid ∷ eids) replies = (reply : Reply A) × (rest : List (Reply A)) × (replies ≡ reply ∷ rest) × Says eid reply × RepliesEach Says eids rest

pub record IsHandled {A : Type 0} (Says : PrefixValue → Reply A → Type 0) (asked : AskedValue) (bytes : List ℕ) (handled : HandledValue) : Type 0 where
  pub replies : List (Reply A)
  pub each : RepliesEach Says asked.eids replies
  pub said : handled ≡ record { asked = asked; outcomes = map outcome_of replies; datagrams = sends asked bytes [] replies }

-- a datagram is handled where a Map-Request is taken of it; else the fault is the first one, but memory may run out at any time
abbrev pub Handles : {A : Type 0} → (AskedValue → PrefixValue → Reply A → Type 0) → List ℕ → Result AskedValue Unasked → Result HandledValue Unasked → Type 0
Handles Says bytes taken (Ok handled) = (taken ≡ Ok handled.asked) × IsHandled (Says handled.asked) handled.asked bytes handled
Handles Says bytes taken (Err fault) = fault ≢ Request OutOfMemory → taken ≡ Err fault

-- the address that a router probes its locators for: its own, where the Map-Request is a probe
abbrev pub probed : AskedValue → Addr → Option Addr
probed asked own = if asked.probe then Some own else None

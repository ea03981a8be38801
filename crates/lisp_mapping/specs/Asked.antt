-- What a node takes of a Map-Request (RFC 9301 sections 5.2, 5.3, 8.2 and 8.3): which EID-Prefixes are asked for, and where Map-Replies go.
use Rattle.std.specs.Prelude.{◌≡◌, ◌≢◌, ℕ, ◌/◌, ◌==◌, Bool, true, false, ◌&&◌, not, List, [], ◌∷◌, Option, Some, None, Result, Ok, Err, if◌then◌else◌}
use Rattle.std.specs.List.{find, list_any}
use Rattle.lisp_records.specs.Result.{◌>>=◌}
use Rattle.lisp_records.specs.declared.address.Addr.{Addr}
use Rattle.lisp_records.specs.declared.address.Addr.TheVariants.{V4, V6}
use Rattle.lisp_records.specs.declared.address.Family.{Family}
use Rattle.lisp_records.specs.declared.address.Family.TheVariants.{Ipv4, Ipv6}
use Rattle.lisp_records.specs.Address.{PrefixValue, holds}
use Rattle.lisp_requests.specs.Encapsulated.{encapsulated_at}
use Rattle.lisp_requests.specs.Request.{MapRequestValue, request_at}
use Rattle.lisp_requests.specs.declared.fault.RequestFault.{RequestFault}
use Rattle.lisp_requests.specs.declared.fault.RequestFault.TheVariants as faults
use Rattle.lisp_mapping.specs.declared.replier.Replier.{Replier}
use Rattle.lisp_mapping.specs.declared.replier.Replier.TheVariants.{MapServer, Router}
use Rattle.lisp_mapping.specs.declared.unasked.Unasked.{Unasked}
use Rattle.lisp_mapping.specs.declared.unasked.Unasked.TheVariants.{Request, Solicited, Probed, Unwanted, NoItrRloc, Unlisted}

-- what is asked: of whom, with which nonce, whether it probes, where Map-Replies go, for which EID-Prefixes
pub record AskedValue : Type 0 where
  pub of : Replier
  pub nonce : ℕ
  pub probe : Bool
  pub to : Addr
  pub port : ℕ
  pub eids : List PrefixValue

abbrev pub is_router : Replier → Bool
is_router MapServer = false
is_router Router = true

-- ---- what a node takes of a Map-Request, or why it takes nothing

-- the fault, where it applies
abbrev pub refused : Unasked → Bool → Result Bool Unasked
refused fault applies = if applies then Err fault else Ok true

-- the address is of the family
abbrev pub is_of : Family → Addr → Bool
is_of Ipv4 (V4 _) = true
is_of Ipv4 (V6 _) = false
is_of Ipv6 (V4 _) = false
is_of Ipv6 (V6 _) = true

-- where Map-Replies go: to the first ITR-RLOC of the node's own address family, if one of the prefixes has it that the node replies to
abbrev pub listed : List PrefixValue → Option Addr → Result Addr Unasked
listed resolve None = Err NoItrRloc
listed resolve (Some addr) = if list_any (λ p. holds p addr) resolve then Ok addr else Err Unlisted

abbrev pub rloc_for : List PrefixValue → Family → List Addr → Result Addr Unasked
rloc_for resolve own rlocs = listed resolve (find (is_of own) rlocs)

-- a node doesn't serve a Solicit-Map-Request, a Map-Server no probe; a Map-Request may want no reply
abbrev pub asked_of : Replier → List PrefixValue → Family → ℕ → MapRequestValue → Result AskedValue Unasked
asked_of of resolve own port m = do
  _ ← refused Solicited m.smr
  _ ← refused Probed (m.probe && not (is_router of))
  _ ← refused Unwanted m.no_reply
  to ← rloc_for resolve own m.itr_rlocs
  Ok (record { of = of; nonce = m.nonce; probe = m.probe; to = to; port = port; eids = m.eids })

-- ---- and of a datagram

-- a fault of the bytes
abbrev pub as_request : {X : Type 0} → Result X RequestFault → Result X Unasked
as_request (Ok x) = Ok x
as_request (Err fault) = Err (Request fault)

-- an encapsulated Map-Request: Map-Replies go to the inner UDP source port
abbrev pub encapsulated_asked : Replier → List PrefixValue → Family → List ℕ → Result AskedValue Unasked
encapsulated_asked of resolve own bytes = do
  around ← as_request (encapsulated_at bytes)
  m ← as_request (request_at around.message)
  asked_of of resolve own around.port m

-- a router also takes one that comes alone, from the port that Map-Replies go to
abbrev pub is_alone : List ℕ → Bool
is_alone [] = false
is_alone (first ∷ _) = first / 16 == 1

abbrev pub router_asked : List PrefixValue → Family → ℕ → List ℕ → Result AskedValue Unasked
router_asked resolve own port bytes = if is_alone bytes then (do
  m ← as_request (request_at bytes)
  asked_of Router resolve own port m) else encapsulated_asked Router resolve own bytes

-- what a function answers is that, except that memory may run out at any time
abbrev pub Takes : Result AskedValue Unasked → Result AskedValue Unasked → Type 0
Takes (Ok asked) taken = taken ≡ Ok asked
Takes (Err fault) taken = fault ≢ Request faults.OutOfMemory → taken ≡ Err fault

-- What a call from C makes of the Map-Server that a handle holds, and what it tells.
use Rattle.std.specs.Prelude.{◌≡◌, ℕ, ◌==◌, List, [], replicate, Option, Some, None, Result, IfOk, MatchResult, if◌then◌else◌}
use Rattle.std.specs.Option.{MatchOption}
use Rattle.std.specs.Global.{Global}
use Rattle.lisp_records.specs.declared.address.Addr.{Addr}
use Rattle.lisp_nonces.specs.declared.pair.Pair.{Pair}
use Rattle.lisp_admission.specs.declared.refused.Refused.{Refused}
use Rattle.lisp_admission.specs.Refused.{refused_number}
use Rattle.lisp_server.specs.declared.took.Took.{Took}
use Rattle.lisp_server.specs.declared.took.Took.TheVariants.{Accepted, NoticeDone}
use Rattle.lisp_server.specs.Server.{ServerState, empty_server}
use Rattle.lisp_server.specs.Took.{reply_in}
use Rattle.lisp_embedded.specs.declared.hosted.HostedServer.{HostedServer}
use Rattle.lisp_embedded.specs.Host.{pair_in}
use Rattle.lisp_embedded.specs.Receiving.{IsOfNoStore, RefusesKept, TakesKept}
use Rattle.lisp_registration.specs.declared.address.PlainAddress.{PlainAddress}
use Rattle.lisp_registration.specs.declared.fault.HandleFault.TheVariants.{Null}
use Rattle.lisp_registration.specs.declared.pair.PlainNonce.{PlainNonce}
use Rattle.lisp_registration.specs.declared.pair.PlainPair.{PlainPair}
use Rattle.lisp_registration.specs.declared.server.PlainReceived.{PlainReceived}
use Rattle.lisp_registration.specs.Fault.{handle_fault_number}
use Rattle.lisp_registration.specs.Told.{ToldWhole}
use Rattle.lisp_registration.specs.Handle.{Tells, source_of, told_bytes}

-- a pair, or none
abbrev pub plain_pair : Option Pair → PlainPair
plain_pair (Some p) = record { site = p.router.site; xtr = p.router.xtr; key_id = p.key; is_there = 1 }
plain_pair None = record { site = 0; xtr = replicate 16 0; key_id = 0; is_there = 0 }

-- what a call that asks for the pair of a datagram leaves
abbrev pub TellsPair : List ℕ → PlainPair → Type 0
TellsPair bytes new = new ≡ plain_pair (pair_in bytes)

-- the nonce that the program loaded, or none
abbrev pub kept_in : PlainNonce → Option ℕ
kept_in n = if n.is_there == 0 then None else Some n.nonce

-- what another start leaves
abbrev pub RestartsServer : Option HostedServer → ℕ → Option HostedServer → Type 0
RestartsServer old number new = MatchOption old ((number ≡ handle_fault_number Null) × (new ≡ None)) (λ hosted. (number ≡ 0) × (new ≡ Some (record { server = empty_server hosted.server.sites })))

-- ---- receiving

-- what was taken, and the length of its answer
abbrev pub plain_received : {A : Type 0} → Took A → ℕ → PlainReceived
plain_received (Accepted router key nonce reply) n = record { nonce = nonce; site = router.site; xtr = router.xtr; key_id = key; accepted = 1; reply_length = n }
plain_received (NoticeDone router nonce) n = record { nonce = nonce; site = router.site; xtr = router.xtr; key_id = 0; accepted = 0; reply_length = n }

-- the bytes of an answer; none where there is none
abbrev pub bytes_of : Option (List ℕ) → List ℕ
bytes_of (Some bytes) = bytes
bytes_of None = []

abbrev pub reply_bytes : {A : Type 0} → Took A → List ℕ
reply_bytes took = bytes_of (reply_in took)

-- the number, the buffer and the struct that an answer leaves
abbrev pub told_received : {A : Type 0} → Result (Took A) Refused → List ℕ → PlainReceived → ℕ × (List ℕ × PlainReceived)
told_received {A} answer buffer old = told_bytes (reply_bytes {A = A}) plain_received refused_number answer buffer old

-- an answer is what a Map-Server makes of the datagram, over the nonce that was passed; a refusal is not of a store, and changes nothing
abbrev pub ReceivesKept : {A : Type 0} → Option ℕ → Addr → List ℕ → ℕ → ServerState → ServerState → Result (Took A) Refused → Type 0
ReceivesKept kept from bytes now old new answer = MatchResult answer (λ took. TakesKept kept from bytes old new now took) (λ why. RefusesKept kept from bytes old now why × IsOfNoStore why × (new ≡ old))

-- the same of what a handle holds; an answer is told whole
abbrev pub Receives : Option ℕ → List ℕ → ℕ → List ℕ → Addr → HostedServer → HostedServer → Result (Took Global) Refused → Type 0
Receives kept bytes now buffer from before after answer = ReceivesKept kept from bytes now before.server after.server answer × IfOk answer (λ took. ToldWhole (reply_bytes took) buffer)

-- what receiving leaves
abbrev pub TellsReceived : PlainNonce → PlainAddress → List ℕ → ℕ → Option HostedServer → List ℕ → PlainReceived → ℕ → Option HostedServer → List ℕ → PlainReceived → Type 0
TellsReceived kept from bytes now old buffer received number new buffer' received' =
    Tells (source_of from bytes buffer) (Receives (kept_in kept) bytes now buffer) told_received old buffer received (number, (new, (buffer', received')))

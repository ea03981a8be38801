-- What a call from C makes of the router that a handle holds, and what it tells.
use Rattle.std.specs.Prelude.{◌≡◌, ℕ, List, [], Option, Some, None, Result, Ok, ⊤, MatchResult, unwrap_or}
use Rattle.std.specs.Global.{Global}
use Rattle.lisp_records.specs.declared.address.Addr.{Addr}
use Rattle.lisp_etr.specs.declared.notify_fault.NotifyFault.{NotifyFault}
use Rattle.lisp_etr.specs.declared.seen.Seen.{Seen}
use Rattle.lisp_etr.specs.declared.seen.Seen.TheVariants.{Counted, Notice}
use Rattle.lisp_etr.specs.declared.send_fault.SendFault.{SendFault}
use Rattle.lisp_etr.specs.Etr.{EtrState, due_at}
use Rattle.lisp_etr.specs.Faults.{notify_fault_number, send_fault_number}
use Rattle.lisp_etr.specs.Hearing.{Gives, RefusesBadHead, TakesMemoryIfOut, etr_after, seen_at}
use Rattle.lisp_embedded.specs.declared.hosted.HostedRouter.{HostedRouter}
use Rattle.lisp_embedded.specs.declared.router_send.HostedRegister.{HostedRegister}
use Rattle.lisp_embedded.specs.Routers.{RefusesKeptSend, SendsKept}
use Rattle.lisp_registration.specs.declared.address.PlainAddress.{PlainAddress}
use Rattle.lisp_registration.specs.declared.router.PlainDue.{PlainDue}
use Rattle.lisp_registration.specs.declared.fault.HandleFault.TheVariants as faults
use Rattle.lisp_registration.specs.declared.router.PlainSeen.{PlainSeen}
use Rattle.lisp_registration.specs.declared.router.PlainSent.{PlainSent}
use Rattle.lisp_registration.specs.Fault.{handle_fault_number}
use Rattle.lisp_registration.specs.Meaning.{address_in}
use Rattle.lisp_registration.specs.Plain.{plain_address}
use Rattle.lisp_registration.specs.Told.{IsInFront}
use Rattle.lisp_registration.specs.Handle.{Tells, ready, source_of, told_bytes}

-- ---- what is due

-- a Map-Server and a part, by their numbers, or none
abbrev pub plain_due : Option (ℕ × ℕ) → PlainDue
plain_due (Some d) = record { server = d.0; part = d.1; is_there = 1 }
plain_due None = record { server = 0; part = 0; is_there = 0 }

-- the number, the router and the struct that a call leaves which asks what is due
abbrev pub told_due : ℕ → Option HostedRouter → PlainDue → ℕ × (Option HostedRouter × PlainDue)
told_due now (Some hosted) due = (0, (Some hosted, plain_due (due_at hosted.router now)))
told_due now None due = (handle_fault_number faults.Null, (None, due))

-- ---- sending

-- 1 where something has to be saved
abbrev pub must_save : Option ℕ → ℕ
must_save (Some nonce) = 1
must_save None = 0

-- a Map-Register, of which so many bytes are in the buffer
abbrev pub plain_sent : {A : Type 0} → HostedRegister A → ℕ → PlainSent
plain_sent register size = record { nonce = unwrap_or register.save 0; must_save = must_save register.save; to = plain_address register.to; length = size }

-- the number, the buffer and the struct that a Map-Register leaves, or why there is none
abbrev pub told_sent : {A : Type 0} → Result (HostedRegister A) SendFault → List ℕ → PlainSent → ℕ × (List ℕ × PlainSent)
told_sent {A} answer buffer old = told_bytes (λ (register : HostedRegister A). register.bytes.items) plain_sent send_fault_number answer buffer old

-- a router makes the Map-Register of a part to a Map-Server; at a refusal nothing changes
abbrev pub AnswersSend : {A : Type 0} → ℕ → ℕ → ℕ → EtrState → EtrState → Result (HostedRegister A) SendFault → Type 0
AnswersSend server part now old new answer = MatchResult answer (SendsKept old new server part now) (λ why. RefusesKeptSend old server part why × (new ≡ old))

-- the same of what a handle holds
abbrev pub Sends : ℕ → ℕ → ℕ → ⊤ → HostedRouter → HostedRouter → Result (HostedRegister Global) SendFault → Type 0
Sends server part now _ before after answer = AnswersSend server part now before.router after.router answer

-- what a call leaves that sends
abbrev pub TellsSent : ℕ → ℕ → ℕ → Option HostedRouter → List ℕ → PlainSent → ℕ → Option HostedRouter → List ℕ → PlainSent → Type 0
TellsSent server part now old buffer sent number new buffer' sent' =
    Tells (ready buffer now) (Sends server part now) told_sent old buffer sent (number, (new, (buffer', sent')))

-- ---- receiving

-- what was taken, and the length of its answer
abbrev pub plain_seen : {A : Type 0} → Seen A → ℕ → PlainSeen
plain_seen (Counted server part nonce) n = record { nonce = nonce; server = server; part = part; is_notice = 0; reply_length = n }
plain_seen (Notice server nonce records answer) n = record { nonce = nonce; server = server; part = 0; is_notice = 1; reply_length = n }

-- the bytes of the answer to a notice; none where there is none
abbrev pub answer_bytes : {A : Type 0} → Seen A → List ℕ
answer_bytes (Counted server part nonce) = []
answer_bytes (Notice server nonce records answer) = answer

-- the number, the buffer and the struct that an answer leaves
abbrev pub told_seen : {A : Type 0} → Result (Seen A) NotifyFault → List ℕ → PlainSeen → ℕ × (List ℕ × PlainSeen)
told_seen {A} answer buffer old = told_bytes (answer_bytes {A = A}) plain_seen notify_fault_number answer buffer old

-- what a router sees in bytes from an address is answered whole
abbrev pub AnswersWhole : EtrState → PlainAddress → List ℕ → List ℕ → ℕ → List ℕ → Type 0
AnswersWhole e from bytes old size new = (a : Addr) × (seen : Seen Global) × (address_in from ≡ Some a) × (seen_at e a bytes ≡ Ok seen) × IsInFront (answer_bytes seen) old size new

-- an answer is what a router sees in bytes from an address; it is out of memory only where these take memory
abbrev pub Sees : {A : Type 0} → EtrState → Addr → List ℕ → Result (Seen A) NotifyFault → Type 0
Sees e from bytes answer = Gives (λ seen. seen) answer (seen_at e from bytes) × TakesMemoryIfOut e.config from bytes answer × RefusesBadHead bytes answer

-- the same of what a handle holds
abbrev pub Hears : List ℕ → Addr → HostedRouter → HostedRouter → Result (Seen Global) NotifyFault → Type 0
Hears bytes from before after answer = Sees before.router from bytes answer × (after.router ≡ etr_after before.router answer)

-- what a call leaves that receives
abbrev pub TellsSeen : PlainAddress → List ℕ → Option HostedRouter → List ℕ → PlainSeen → ℕ → Option HostedRouter → List ℕ → PlainSeen → Type 0
TellsSeen from bytes old buffer seen number new buffer' seen' =
    Tells (source_of from bytes buffer) (Hears bytes) told_seen old buffer seen (number, (new, (buffer', seen')))

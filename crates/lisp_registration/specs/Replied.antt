-- What a call from C is told of an EID-Prefix that a Map-Request asks for: what is sent for it, by what a handle holds.
use Rattle.std.specs.Prelude.{◌≡◌, ℕ, ◌==◌, nat_lt, Bool, false, List, length, Option, Some, None, Result, Ok, Err, IfOk, MatchResult, if◌then◌else◌}
use Rattle.std.specs.declared.alloc.AllocError.{AllocError}
use Rattle.std.specs.Global.{Global}
use Rattle.std.specs.Option.{MatchOption}
use Rattle.lisp_records.specs.declared.address.Addr.{Addr}
use Rattle.lisp_records.specs.Address.{PrefixValue}
use Rattle.lisp_records.specs.Result.{◌>>=◌}
use Rattle.lisp_replies.specs.Own.{IsOwnReply}
use Rattle.lisp_replies.specs.Reply.{IsReply}
use Rattle.lisp_mapping.specs.declared.replier.Replier.TheVariants.{MapServer, Router}
use Rattle.lisp_mapping.specs.declared.outcome.Outcome.{Outcome}
use Rattle.lisp_mapping.specs.declared.outcome.Outcome.TheVariants.{Replied, Negative, Forwarded, Silent}
use Rattle.lisp_embedded.specs.declared.hosted.HostedRouter.{HostedRouter}
use Rattle.lisp_embedded.specs.declared.hosted.HostedServer.{HostedServer}
use Rattle.lisp_embedded.specs.Replying.{HostedReplyValue, Says}
use Rattle.lisp_registration.specs.declared.address.PlainAddress.{PlainAddress}
use Rattle.lisp_registration.specs.declared.address.PlainPrefix.{PlainPrefix}
use Rattle.lisp_registration.specs.declared.fault.WriteFault.TheVariants.{OutOfMemory}
use Rattle.lisp_registration.specs.declared.fault.HandleFault.{HandleFault}
use Rattle.lisp_registration.specs.declared.fault.HandleFault.TheVariants as faults
use Rattle.lisp_registration.specs.declared.resolving.PlainReplied.{PlainReplied}
use Rattle.lisp_registration.specs.Fault.{handle_fault_number, write_fault_number}
use Rattle.lisp_registration.specs.Meaning.{address_in, is_on, or_fault, prefix_in}
use Rattle.lisp_registration.specs.Plain.{no_address, plain_address}
use Rattle.lisp_registration.specs.Told.{put_in}

-- ---- what is sent, in plain numbers

-- a Map-Reply with records, a negative one, a Map-Request that goes on, nothing
abbrev pub replied_kind : Outcome → ℕ
replied_kind (Replied count) = 0
replied_kind (Negative eid) = 1
replied_kind (Forwarded to) = 2
replied_kind Silent = 3

-- where the Map-Request goes on to
abbrev pub goes_on_to : Outcome → PlainAddress
goes_on_to (Replied count) = no_address
goes_on_to (Negative eid) = no_address
goes_on_to (Forwarded to) = plain_address to
goes_on_to Silent = no_address

abbrev pub plain_replied : HostedReplyValue → PlainReplied
plain_replied hosted = record { kind = replied_kind hosted.outcome; to = goes_on_to hosted.outcome; length = length hosted.bytes }

-- what a call leaves but the handle: the number, the buffer and the struct
abbrev pub RepliedLeft : Type 0
RepliedLeft = ℕ × (List ℕ × PlainReplied)

-- what is told, with the Map-Reply in front of the buffer; or the buffer has no room for it, or memory ran out
abbrev pub told_replied : Result HostedReplyValue AllocError → List ℕ → PlainReplied → RepliedLeft
told_replied (Ok hosted) buffer old =
    if nat_lt (length buffer) (length hosted.bytes) then (handle_fault_number faults.Room, (buffer, old))
    else (0, ((put_in hosted.bytes buffer).1, plain_replied hosted))
told_replied (Err _) buffer old = (write_fault_number OutOfMemory, (buffer, old))

-- what is told is what is said, except that memory may run out
abbrev pub TellsSaid : (HostedReplyValue → Type 0) → List ℕ → PlainReplied → RepliedLeft → Type 0
TellsSaid IsSaid buffer replied left = (answer : Result HostedReplyValue AllocError) × IfOk answer IsSaid × (left ≡ told_replied answer buffer replied)

-- ---- by a Map-Server

-- what is told where the EID-Prefix is one, and a handle holds a Map-Server
abbrev pub LeavesServerReply : Option PrefixValue → ℕ → Bool → ℕ → Option HostedServer → List ℕ → PlainReplied → RepliedLeft → Type 0
LeavesServerReply eid nonce starting now held buffer replied left =
    MatchOption eid (left ≡ (handle_fault_number faults.Field, (buffer, replied)))
    (λ asked. MatchOption held (left ≡ (handle_fault_number faults.Null, (buffer, replied)))
    (λ hosted. TellsSaid (Says {A = Global} (IsReply hosted.server.rows hosted.server.sites asked starting now) MapServer false nonce) buffer replied left))

-- what a call leaves; the Map-Server is as it was
abbrev pub TellsServerReply : PlainPrefix → ℕ → ℕ → ℕ → Option HostedServer → List ℕ → PlainReplied → ℕ → Option HostedServer → List ℕ → PlainReplied → Type 0
TellsServerReply eid nonce starting now old buffer replied number new buffer' replied' = LeavesServerReply (prefix_in eid) nonce (is_on starting) now old buffer replied (number, (buffer', replied')) × (new ≡ old)

-- ---- by a router

-- the address that is probed, which is none of family 0
abbrev pub probed_in : PlainAddress → Result (Option Addr) HandleFault
probed_in a = if a.family == 0 then Ok None else (or_fault faults.Field (address_in a) >>= λ addr. Ok (Some addr))

-- what is told where the EID-Prefix is one, the probed address one or none, and a handle holds a router
abbrev pub LeavesRouterReply : Option PrefixValue → Result (Option Addr) HandleFault → ℕ → Bool → Option HostedRouter → List ℕ → PlainReplied → RepliedLeft → Type 0
LeavesRouterReply eid probed nonce probe held buffer replied left =
    MatchOption eid (left ≡ (handle_fault_number faults.Field, (buffer, replied)))
    (λ asked. MatchResult probed
    (λ addr. MatchOption held (left ≡ (handle_fault_number faults.Null, (buffer, replied)))
    (λ hosted. TellsSaid (Says {A = Global} (IsOwnReply hosted.router.database asked addr) Router probe nonce) buffer replied left))
    (λ fault. left ≡ (handle_fault_number fault, (buffer, replied))))

-- what a call leaves; the router is as it was
abbrev pub TellsRouterReply : PlainPrefix → ℕ → ℕ → PlainAddress → Option HostedRouter → List ℕ → PlainReplied → ℕ → Option HostedRouter → List ℕ → PlainReplied → Type 0
TellsRouterReply eid nonce probe probed old buffer replied number new buffer' replied' = LeavesRouterReply (prefix_in eid) (probed_in probed) nonce (is_on probe) old buffer replied (number, (buffer', replied')) × (new ≡ old)

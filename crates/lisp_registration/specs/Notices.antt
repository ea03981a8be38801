-- What a call from C leaves that drops dead rows, or makes a Map-Server's unsolicited Map-Notifies (notices).
use Rattle.std.specs.Prelude.{◌≡◌, ℕ, ◌≤◌, List, length, replicate, Option, Some, None, Result, ⊤, IfSome, MatchResult}
use Rattle.std.specs.Global.{Global}
use Rattle.std.specs.Option.{MatchOption}
use Rattle.lisp_records.specs.declared.router.RouterId.{RouterId}
use Rattle.lisp_admission.specs.declared.notice_fault.NoticeFault.{NoticeFault}
use Rattle.lisp_admission.specs.NoticeFault.{notice_fault_number}
use Rattle.lisp_lookup.specs.Table.{Expires}
use Rattle.lisp_server.specs.Notices.{IsDueRouter, RefusesResend, Resends, StandingNoticeValue, notice_at}
use Rattle.lisp_server.specs.Server.{ServerState}
use Rattle.lisp_embedded.specs.declared.hosted.HostedServer.{HostedServer}
use Rattle.lisp_embedded.specs.declared.notice.HostedNotice.{HostedNotice}
use Rattle.lisp_embedded.specs.Notices.{AnnouncesKept, IsOfNoStore, RefusesKeptNotice}
use Rattle.lisp_registration.specs.declared.fault.HandleFault.TheVariants as faults
use Rattle.lisp_registration.specs.declared.notices.PlainNotice.{PlainNotice}
use Rattle.lisp_registration.specs.declared.pair.PlainNonce.{PlainNonce}
use Rattle.lisp_registration.specs.declared.pair.PlainRouter.{PlainRouter}
use Rattle.lisp_registration.specs.Fault.{handle_fault_number}
use Rattle.lisp_registration.specs.Plain.{plain_address}
use Rattle.lisp_registration.specs.Handle.{Tells, in_time, message_room, ready, told_bytes}
use Rattle.lisp_registration.specs.Server.{kept_in}
use Rattle.lisp_registration.specs.Told.{ToldWhole}

-- ---- dead rows

-- the dead rows were dropped, and nothing else changed
abbrev pub DropsRows : ServerState → ℕ → ServerState → Type 0
DropsRows old now new = Expires old.rows new.rows now × (new ≡ record old { rows = new.rows })

-- the number and the Map-Server that dropping leaves
abbrev pub Dropped : ServerState → ℕ → ℕ × ServerState → Type 0
Dropped old now left = MatchResult (in_time now) (λ _. (left.0 ≡ 0) × DropsRows old now left.1) (λ fault. left ≡ (handle_fault_number fault, old))

-- what a call leaves that drops dead rows
abbrev pub ExpiresRows : ℕ → Option HostedServer → ℕ → Option HostedServer → Type 0
ExpiresRows now old number new =
    MatchOption old ((number ≡ handle_fault_number faults.Null) × (new ≡ None)) (λ hosted. (after : ServerState) × Dropped hosted.server now (number, after) × (new ≡ Some (record { server = after })))

-- ---- routers

abbrev pub plain_router : Option RouterId → PlainRouter
plain_router (Some r) = record { site = r.site; xtr = r.xtr; is_there = 1 }
plain_router None = record { site = 0; xtr = replicate 16 0; is_there = 0 }

abbrev pub router_in : PlainRouter → RouterId
router_in r = record { site = r.site; xtr = r.xtr }

-- what a call leaves that asks to which router a notice is due; the Map-Server is as it was
abbrev pub TellsDue : ℕ → Option HostedServer → PlainRouter → ℕ → Option HostedServer → PlainRouter → Type 0
TellsDue now old router number new router' = (new ≡ old)
    × MatchOption old ((number ≡ handle_fault_number faults.Null) × (router' ≡ router)) (λ hosted. (number ≡ 0) × (due : Option RouterId) × IsDueRouter hosted.server.notices now due × (router' ≡ plain_router due))

-- ---- notices

-- a notice, of which so many bytes are in the buffer
abbrev pub plain_notice : {A : Type 0} → HostedNotice A → ℕ → PlainNotice
plain_notice n size = record { nonce = n.nonce; to = plain_address n.to; length = size }

-- the number, the buffer and the struct that a notice leaves, or why there is none
abbrev pub told_notice : {A : Type 0} → Result (HostedNotice A) NoticeFault → List ℕ → PlainNotice → ℕ × (List ℕ × PlainNotice)
told_notice {A} answer buffer old = told_bytes (λ (n : HostedNotice A). n.bytes.items) plain_notice notice_fault_number answer buffer old

-- how a notice is made for a buffer, or why not: what is answered, of the Map-Server before and after
abbrev pub Making : Type 1
Making = List ℕ → ServerState → ServerState → Result (HostedNotice Global) NoticeFault → Type 0

-- a new notice is made over the nonce that was passed, and told whole; a refusal is not of a store, and changes nothing
abbrev pub NotifiesKept : Option ℕ → RouterId → ℕ → Making
NotifiesKept kept router now buffer old new answer =
    MatchResult answer (λ n. AnnouncesKept kept old new router now n × ToldWhole n.bytes.items buffer) (λ why. RefusesKeptNotice kept old router now why × IsOfNoStore why × (new ≡ old))

-- each notice that stands has room in a buffer that has room for every message
abbrev pub AreShort : List StandingNoticeValue → Type 0
AreShort notices = (router : RouterId) (n : StandingNoticeValue) → notice_at notices router ≡ Some n → length n.bytes ≤ message_room

-- a notice that is due is made again, under no new nonce
abbrev pub SendsAgain : {A : Type 0} → ServerState → ServerState → RouterId → ℕ → HostedNotice A → Type 0
SendsAgain old new router now n = Resends old.notices new.notices router now n.to n.bytes.items × (new ≡ record old { notices = new.notices }) × (n.nonce ≡ 0)

-- and told whole, where the notices that stand are short; at a refusal nothing changes
abbrev pub ResendsDue : RouterId → ℕ → Making
ResendsDue router now buffer old new answer =
    MatchResult answer (λ n. SendsAgain old new router now n × (AreShort old.notices → ToldWhole n.bytes.items buffer)) (λ why. RefusesResend old.notices router now why × (new ≡ old))

-- the same of what a handle holds
abbrev pub Makes : Making → List ℕ → ⊤ → HostedServer → HostedServer → Result (HostedNotice Global) NoticeFault → Type 0
Makes makes buffer _ before after answer = makes buffer before.server after.server answer

-- what making leaves, where it can be asked for at the time
abbrev pub TellsMade : Making → ℕ → Option HostedServer → List ℕ → PlainNotice → ℕ → Option HostedServer → List ℕ → PlainNotice → Type 0
TellsMade makes now old buffer notice number new buffer' notice' =
    Tells (ready buffer now) (Makes makes buffer) told_notice old buffer notice (number, (new, (buffer', notice')))

-- what a call for a new notice leaves
abbrev pub TellsNotice : PlainNonce → PlainRouter → ℕ → Option HostedServer → List ℕ → PlainNotice → ℕ → Option HostedServer → List ℕ → PlainNotice → Type 0
TellsNotice kept router now = TellsMade (NotifiesKept (kept_in kept) (router_in router) now) now

-- what a call for a notice that is due leaves
abbrev pub TellsResent : PlainRouter → ℕ → Option HostedServer → List ℕ → PlainNotice → ℕ → Option HostedServer → List ℕ → PlainNotice → Type 0
TellsResent router now = TellsMade (ResendsDue (router_in router) now) now

-- ---- notices that stand

-- those of the Map-Server that a handle holds are short, where it holds one
abbrev pub HoldsShort : Option HostedServer → Type 0
HoldsShort held = IfSome held (λ hosted. AreShort hosted.server.notices)

-- a call with a handle keeps them short
abbrev pub KeepsShort : (Option HostedServer → ℕ → Option HostedServer → Type 0) → Type 0
KeepsShort Call = (old new : Option HostedServer) (number : ℕ) → Call old number new → HoldsShort old → HoldsShort new

-- Notices: the unsolicited Map-Notifies of a Map-Server, each of which it sends again, up to six times, until it
-- is acknowledged (RFC 9301 sections 5.7 and 8.2).
use Rattle.std.specs.Prelude.{◌≡◌, ◌≢◌, ◌<◌, ℕ, ◌+◌, ◌==◌, Bool, true, false, ◌&&◌, List, [], ◌∷◌, length, slice_get, Option, Some, None}
use Rattle.std.specs.List.{AllPairs, find}
use Rattle.std.specs.Option.{option_map}
use Rattle.std.specs.declared.cmp.Ordering.TheVariants.{Less}
use Rattle.lisp_records.specs.declared.address.Addr.{Addr}
use Rattle.lisp_records.specs.declared.router.RouterId.{RouterId}
use Rattle.lisp_records.specs.Address.{addr_eq}
use Rattle.lisp_records.specs.Router.{router_eq, router_cmp}
use Rattle.lisp_admission.specs.NoticeTimer.{gaps, due_after, has_come}
use Rattle.lisp_admission.specs.declared.notice_fault.NoticeFault.{NoticeFault}
use Rattle.lisp_admission.specs.declared.notice_fault.NoticeFault.TheVariants.{OutOfMemory, NotDue}

-- a notice that stands: for which router, to which address, under which key and nonce; its bytes; how
-- often it was sent again, and when it was sent last
pub record StandingNoticeValue : Type 0 where
  pub router : RouterId
  pub to : Addr
  pub key : ℕ
  pub nonce : ℕ
  pub bytes : List ℕ
  pub resends : ℕ
  pub last : ℕ

-- when it is due
abbrev pub due_at : StandingNoticeValue → Option ℕ
due_at n = option_map (λ gap. n.last + gap) (slice_get gaps n.resends)

abbrev pub is_due : ℕ → StandingNoticeValue → Bool
is_due now n = has_come now (due_at n)

-- it was sent again
abbrev pub resent : ℕ → StandingNoticeValue → StandingNoticeValue
resent now n = record n { resends = n.resends + 1; last = now }

-- what is kept of a notice is that it was sent at these times, the last one first
pub record KeepsNoticeTime (n : StandingNoticeValue) (last : ℕ) (before : List ℕ) : Type 0 where
  pub last_is : n.last ≡ last
  pub times : n.resends ≡ length before
  pub due : due_at n ≡ due_after (last ∷ before)

-- from its first sending on
pub record NoticesKeepTime : Type 0 where
  pub first : (n : StandingNoticeValue) → n.resends ≡ 0 → KeepsNoticeTime n n.last []
  pub again : (n : StandingNoticeValue) (last now : ℕ) (before : List ℕ) → KeepsNoticeTime n last before → KeepsNoticeTime (resent now n) now (last ∷ before)

-- the notice is for the router
abbrev pub is_notice_of : RouterId → StandingNoticeValue → Bool
is_notice_of router n = router_eq n.router router

-- the notice that stands for a router
unfoldable pub notice_at : List StandingNoticeValue → RouterId → Option StandingNoticeValue
notice_at notices router = find (is_notice_of router) notices

-- no two notices are for one router
abbrev pub OneForEach : List StandingNoticeValue → Type 0
OneForEach notices = AllPairs (λ a b. a.router ≢ b.router) notices

-- the notice was set for its router, and no other was touched
pub record SetsNotice (old new : List StandingNoticeValue) (n : StandingNoticeValue) : Type 0 where
  pub here : notice_at new n.router ≡ Some n
  pub others : (other : RouterId) → other ≢ n.router → notice_at new other ≡ notice_at old other

-- the notice for the router was ended, and no other was touched
pub record EndsNotice (old new : List StandingNoticeValue) (router : RouterId) : Type 0 where
  pub here : notice_at new router ≡ None
  pub others : (other : RouterId) → other ≢ router → notice_at new other ≡ notice_at old other

-- the notice waits for a Map-Notify-Ack with this key and nonce from this address
abbrev pub awaits : Addr → ℕ → ℕ → StandingNoticeValue → Bool
awaits from key nonce n = addr_eq n.to from && (n.key == key) && (n.nonce == nonce)

-- the notice stands for its router, and waits for a Map-Notify-Ack with this key and nonce from this address
pub record IsAwaiting (notices : List StandingNoticeValue) (from : Addr) (key nonce : ℕ) (n : StandingNoticeValue) : Type 0 where
  pub stands : notice_at notices n.router ≡ Some n
  pub waits : awaits from key nonce n ≡ true

-- no router's notice waits for it
abbrev pub NoneAwaits : List StandingNoticeValue → Addr → ℕ → ℕ → Type 0
NoneAwaits notices from key nonce = (router : RouterId) (n : StandingNoticeValue) → notice_at notices router ≡ Some n → awaits from key nonce n ≡ false

-- a notice that waits for it, where there is one
abbrev pub Awaited : List StandingNoticeValue → Addr → ℕ → ℕ → Option StandingNoticeValue → Type 0
Awaited notices from key nonce (Some n) = IsAwaiting notices from key nonce n
Awaited notices from key nonce None = NoneAwaits notices from key nonce

-- the notices, and how many more there is room for
pub record StandingNoticesState : Type 0 where
  pub notices : List StandingNoticeValue
  pub spare : ℕ

-- there is room for the notice to a router, or one stands
abbrev pub HasStandingRoom : StandingNoticesState → RouterId → Type 0
HasStandingRoom standing router = notice_at standing.notices router ≡ None → 0 < standing.spare

-- a router's notice is due; where none stands, none is
abbrev pub is_due_at : ℕ → Option StandingNoticeValue → Bool
is_due_at now None = false
is_due_at now (Some n) = is_due now n

-- the least router with a notice that is due
pub record IsLeastDue (notices : List StandingNoticeValue) (now : ℕ) (router : RouterId) : Type 0 where
  pub notice : StandingNoticeValue
  pub stands : notice_at notices router ≡ Some notice
  pub due : is_due now notice ≡ true
  pub least : (other : RouterId) → is_due_at now (notice_at notices other) ≡ true → router_cmp other router ≢ Less

-- that router, or none where no router's notice is due
abbrev pub IsDueRouter : List StandingNoticeValue → ℕ → Option RouterId → Type 0
IsDueRouter notices now (Some router) = IsLeastDue notices now router
IsDueRouter notices now None = (router : RouterId) → is_due_at now (notice_at notices router) ≡ false

-- the notice of the router, which is due, was sent again: the same bytes to the same address
pub record Resends (old new : List StandingNoticeValue) (router : RouterId) (now : ℕ) (to : Addr) (bytes : List ℕ) : Type 0 where
  pub notice : StandingNoticeValue
  pub stood : notice_at old router ≡ Some notice
  pub due : is_due now notice ≡ true
  pub address : to ≡ notice.to
  pub datagram : bytes ≡ notice.bytes
  pub after : SetsNotice old new (resent now notice)

-- no notice was sent again
abbrev pub RefusesResend : List StandingNoticeValue → RouterId → ℕ → NoticeFault → Type 0
RefusesResend old router now NotDue = is_due_at now (notice_at old router) ≡ false
RefusesResend old router now OutOfMemory = is_due_at now (notice_at old router) ≡ true
RefusesResend old router now _ = ⊥

-- nor was any other changed, and memory that ran out is the node's own
abbrev pub RefusesToResend : Type 0 → StandingNoticesState → StandingNoticesState → RouterId → ℕ → NoticeFault → Type 0
RefusesToResend memory old new router now fault = (fault ≡ OutOfMemory → memory) × RefusesResend old.notices router now fault × (new.notices ≡ old.notices)

-- What comes of a call to send a router an unsolicited Map-Notify (notice), over the nonce that the program kept (RFC 9301 section 5.7).
use Rattle.std.specs.Prelude.{◌≡◌, ℕ, ◌⊎◌, ⊤, Option, Some}
use Rattle.lisp_records.specs.declared.router.RouterId.{RouterId}
use Rattle.lisp_nonces.specs.declared.fault.StoreFault.TheVariants as faults
use Rattle.lisp_nonces.specs.Store.{StoreState}
use Rattle.lisp_admission.specs.declared.notice_fault.NoticeFault.{NoticeFault}
use Rattle.lisp_admission.specs.declared.notice_fault.NoticeFault.TheVariants.{OutOfMemory, StoreLoad, StoreSave}
use Rattle.lisp_admission.specs.Pairs.{notice_pair}
use Rattle.lisp_server.specs.LastNonces.{nonce_at}
use Rattle.lisp_server.specs.SendNotice.{Announces, RefusesNotice}
use Rattle.lisp_server.specs.Server.{ServerState}
use Rattle.lisp_embedded.specs.declared.notice.HostedNotice.{HostedNotice}
use Rattle.lisp_embedded.specs.Host.{KeepsPassed}

-- a notice was made over a store that keeps what was passed for notices; its nonce is the last one of the notices
abbrev pub AnnouncesKept : {A : Type 0} → Option ℕ → ServerState → ServerState → RouterId → ℕ → HostedNotice A → Type 0
AnnouncesKept kept old new router now notice =
    (before : StoreState) × (after : StoreState) × KeepsPassed notice_pair kept before × Announces old new before after router now notice.to notice.bytes.items × (nonce_at new.nonces notice_pair ≡ Some notice.nonce)

-- it is refused over such a store, or memory ran out
abbrev pub RefusesKeptNotice : Option ℕ → ServerState → RouterId → ℕ → NoticeFault → Type 0
RefusesKeptNotice kept old router now why = ((before : StoreState) × (after : StoreState) × KeepsPassed notice_pair kept before × RefusesNotice old before after router now why) ⊎ (why ≡ OutOfMemory)

-- the store of a call lies in the memory of the call
abbrev pub notice_of_this_call : NoticeFault → NoticeFault
notice_of_this_call (StoreLoad faults.OutOfMemory) = OutOfMemory
notice_of_this_call (StoreSave faults.OutOfMemory) = OutOfMemory
notice_of_this_call why = why

-- a refusal is not of a store
abbrev pub IsOfNoStore : NoticeFault → Type 0
IsOfNoStore (StoreLoad fault) = ⊥
IsOfNoStore (StoreSave fault) = ⊥
IsOfNoStore _ = ⊤

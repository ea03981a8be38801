-- Whom an unsolicited Map-Notify (notice) goes to, and the notice that stands then (RFC 9301 section 5.7).
use Rattle.std.specs.Prelude.{◌≡◌, ℕ, List}
use Rattle.lisp_records.specs.declared.router.RouterId.{RouterId}
use Rattle.lisp_records.specs.Row.{RowValue}
use Rattle.lisp_lookup.specs.Records.{live_of}
use Rattle.lisp_policy.specs.Site.{SiteValue}
use Rattle.lisp_nonces.specs.Store.{StoreState}
use Rattle.lisp_admission.specs.NoticeFault.{notice_load_out_of_memory, notice_save_out_of_memory}
use Rattle.lisp_admission.specs.declared.notice_fault.NoticeFault.{NoticeFault}
use Rattle.lisp_admission.specs.declared.notice_fault.NoticeFault.TheVariants.{OutOfMemory}
use Rattle.lisp_server.specs.declared.tables.Tables.{Tables}
use Rattle.lisp_server.specs.declared.contacts.Contact.{Contact}
use Rattle.lisp_server.specs.declared.send_notice.Recipient.{Recipient}
use Rattle.lisp_server.specs.Contacts.{IsHeard}
use Rattle.lisp_server.specs.Notices.{StandingNoticeValue}
use Rattle.lisp_server.specs.Server.{ServerState, SameTables, HasNoticeRoom, state_of}
use Rattle.lisp_server.specs.SendNotice.{IsRegistered, IsNotice, RefusesNotice}

-- where the router was heard last, and the secret of that key
abbrev pub IsHeardAs : List SiteValue → List Contact → RouterId → Recipient → Type 0
IsHeardAs sites contacts router to = (h : IsHeard sites contacts router) × (to.contact ≡ h.contact) × (to.key.now ≡ h.secret)

-- the same of a router that has live records
abbrev pub IsRecipient : ServerState → RouterId → ℕ → Recipient → Type 0
IsRecipient s router now to = (r : IsRegistered s router now) × (to.contact ≡ r.heard.contact) × (to.key.now ≡ r.heard.secret)

-- the bytes are a notice to it, of the live records of its router
abbrev pub IsNoticeTo : Recipient → List RowValue → ℕ → ℕ → List ℕ → Type 0
IsNoticeTo to rows now nonce bytes = IsNotice (live_of rows to.contact.router now) to.contact.key nonce to.key.now bytes

-- a notice to a contact that was sent once, and stands
abbrev pub sent_notice : Contact → ℕ → List ℕ → ℕ → StandingNoticeValue
sent_notice to nonce bytes now = record { router = to.router; to = to.from; key = to.key; nonce = nonce; bytes = bytes; resends = 0; last = now }

-- the notice that stands once its nonce is saved, with its bytes, and room for it
abbrev pub IsReadyNotice : {T : Type 0} → Recipient → Tables T → Tables T → ℕ → ℕ → StandingNoticeValue → List ℕ → Type 0
IsReadyNotice to old new now nonce notice bytes =
    (notice ≡ sent_notice to.contact nonce bytes now) × IsNoticeTo to old.rows.rows now nonce bytes × HasNoticeRoom new to.contact.router

-- memory that ran out is the node's own, or its store's
abbrev pub IsNoticeMemory : Type 0 → Type 0 → NoticeFault → Type 0
IsNoticeMemory memory store fault = (fault ≡ OutOfMemory → memory) × (fault ≡ notice_load_out_of_memory → store) × (fault ≡ notice_save_out_of_memory → store)

-- no notice was sent, and of the tables only the room changed
abbrev pub RefusesToNotify : {T : Type 0} → Type 0 → Type 0 → List SiteValue → Tables T → Tables T → StoreState → StoreState → RouterId → ℕ → NoticeFault → Type 0
RefusesToNotify memory store sites old new before after router now fault =
    IsNoticeMemory memory store fault × RefusesNotice (state_of sites old) before after router now fault × SameTables old new

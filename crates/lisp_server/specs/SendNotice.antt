-- What comes of a call to send a router an unsolicited Map-Notify (notice) (RFC 9301 section 5.7).
use Rattle.std.specs.Prelude.{◌≡◌, ◌≢◌, ◌-◌, ◌^◌, ℕ, List, [], ◌∷◌, Option, Some, None, IsTrue, true, false}
use Rattle.lisp_records.specs.declared.address.Addr.{Addr}
use Rattle.lisp_records.specs.declared.router.RouterId.{RouterId}
use Rattle.lisp_records.specs.Parts.{fits_message}
use Rattle.lisp_records.specs.Record.{MapRecordValue}
use Rattle.lisp_messages.specs.Message.{MapNotifyValue, IsMapNotify}
use Rattle.lisp_messages.specs.Authentic.{signed}
use Rattle.lisp_messages.specs.Written.{written_notify}
use Rattle.lisp_nonces.specs.declared.fault.StoreFault.{StoreFault}
use Rattle.lisp_nonces.specs.declared.fault.StoreFault.TheVariants as faults
use Rattle.lisp_nonces.specs.Kept.{kept_at, SameElsewhere, InDoubt}
use Rattle.lisp_nonces.specs.Store.{StoreState, MaySave}
use Rattle.lisp_lookup.specs.Records.{live_of, ByPrefix}
use Rattle.lisp_admission.specs.declared.notice_fault.NoticeFault.{NoticeFault}
use Rattle.lisp_admission.specs.declared.notice_fault.NoticeFault.TheVariants.{NotRegistered, TooLarge, StoreLoad, NonceSpent, OutOfMemory, StoreSave, NotDue}
use Rattle.lisp_server.specs.Contacts.{IsHeard}
use Rattle.lisp_server.specs.LastNonces.{nonce_at, SetsNonce}
use Rattle.lisp_admission.specs.Pairs.{notice_pair}
use Rattle.lisp_admission.specs.Nonces.{IsUnspent, nonce_after, IsBase, KeepsLists, Unasked, HasCause, FailsToLoad, FailsToSave}
use Rattle.lisp_server.specs.Notices.{SetsNotice}
use Rattle.lisp_server.specs.Server.{ServerState}

-- the router has live records, which one message can carry, and was heard
pub record IsRegistered (s : ServerState) (router : RouterId) (now : ℕ) : Type 0 where
  pub some : live_of s.rows router now ≢ []
  pub fits : fits_message (live_of s.rows router now) ≡ true
  pub heard : IsHeard s.sites s.contacts router

-- the last nonce of the notices is, or may be, this one
abbrev pub IsLast : ServerState → StoreState → Option ℕ → Type 0
IsLast s store last = IsBase (nonce_at s.nonces notice_pair) store notice_pair last

-- why no notice can be sent to the router
abbrev pub Unregistered : List MapRecordValue → NoticeFault → Type 0
Unregistered live NotRegistered = live ≡ []
Unregistered live TooLarge = fits_message live ≡ false
Unregistered live _ = ⊥

-- the Map-Notify of a notice
abbrev pub notice_of : ℕ → ℕ → List MapRecordValue → MapNotifyValue
notice_of key nonce records = record { ack = false; nonce = nonce; key_id = key; records = records }

-- the bytes are a notice of these live records, by prefix, and it fits the format
pub record IsNotice (live : List MapRecordValue) (key nonce : ℕ) (secret bytes : List ℕ) : Type 0 where
  pub records : List MapRecordValue
  pub by_prefix : ByPrefix live records
  pub datagram : bytes ≡ signed secret (written_notify (notice_of key nonce records))
  pub fits : IsMapNotify (notice_of key nonce records)

-- a notice was sent: of the router's live records, by prefix, under the key and to the address that it
-- was heard under last, with the next nonce, which an honest store keeps alone for notices from now on; it
-- fits the format, and stands
pub record Announces (old new : ServerState) (before after : StoreState) (router : RouterId) (now : ℕ) (to : Addr) (bytes : List ℕ) : Type 0 where
  pub registered : IsRegistered old router now
  pub last : Option ℕ
  pub counts : IsLast old before last
  pub unspent : IsUnspent last
  pub records : List MapRecordValue
  pub by_prefix : ByPrefix (live_of old.rows router now) records
  pub address : to ≡ registered.heard.contact.from
  pub datagram : bytes ≡ signed registered.heard.secret (written_notify (notice_of registered.heard.contact.key (nonce_after last) records))
  pub fits : IsMapNotify (notice_of registered.heard.contact.key (nonce_after last) records)
  pub stands : SetsNotice old.notices new.notices (record { router = router; to = to; key = registered.heard.contact.key; nonce = nonce_after last; bytes = bytes; resends = 0; last = now })
  pub nonces : SetsNonce old.nonces new.nonces notice_pair (nonce_after last)
  pub rest : new ≡ record old { notices = new.notices; nonces = new.nonces }
  pub kept : IsTrue before.is_honest → kept_at after.kept notice_pair ≡ Some (nonce_after last) ∷ []
  pub others : IsTrue before.is_honest → SameElsewhere before.kept after.kept notice_pair
  -- an obedient store was armed to save
  pub saves : MaySave before

-- the last nonce can't be loaded from the store, which is unchanged if memory ran out in that
pub record LastUnknown (old : ServerState) (before after : StoreState) (router : RouterId) (now : ℕ) (fault : StoreFault) : Type 0 where
  pub registered : IsRegistered old router now
  pub unknown : nonce_at old.nonces notice_pair ≡ None
  pub cause : HasCause fault before after
  pub memory : fault ≡ faults.OutOfMemory → after ≡ before
  pub same : KeepsLists before after
  -- but for memory, an obedient store was armed to fail
  pub armed : FailsToLoad fault before

-- the last nonce is the greatest
pub record LastSpent (old : ServerState) (before after : StoreState) (router : RouterId) (now : ℕ) : Type 0 where
  pub registered : IsRegistered old router now
  pub spent : IsLast old before (Some (2 ^ 64 - 1))
  pub unasked : Unasked (nonce_at old.nonces notice_pair) before after
  pub same : KeepsLists before after

-- memory ran out before the next nonce was saved
pub record NoticeWithoutRoom (old : ServerState) (before after : StoreState) (router : RouterId) (now : ℕ) : Type 0 where
  pub registered : IsRegistered old router now
  pub last : Option ℕ
  pub counts : IsLast old before last
  pub unspent : IsUnspent last
  pub unasked : Unasked (nonce_at old.nonces notice_pair) before after
  pub same : KeepsLists before after

-- it is open whether the next nonce is kept; not where memory ran out: then no list changed
pub record NoticeUnsaved (old : ServerState) (before after : StoreState) (router : RouterId) (now : ℕ) (fault : StoreFault) : Type 0 where
  pub registered : IsRegistered old router now
  pub last : Option ℕ
  pub counts : IsLast old before last
  pub unspent : IsUnspent last
  pub cause : HasCause fault before after
  pub sound : fault ≢ faults.Damaged
  pub memory : fault ≡ faults.OutOfMemory → KeepsLists before after
  pub doubt : IsTrue before.is_honest → InDoubt (kept_at before.kept notice_pair) (kept_at after.kept notice_pair) (nonce_after last)
  pub others : IsTrue before.is_honest → SameElsewhere before.kept after.kept notice_pair
  -- but for memory, an obedient store was armed to fail, and keeps the next nonce too
  pub doubted : FailsToSave fault before after notice_pair (nonce_after last)

-- no notice was sent: what the refusal means, and what it leaves of the store
abbrev pub RefusesNotice : ServerState → StoreState → StoreState → RouterId → ℕ → NoticeFault → Type 0
RefusesNotice old before after router now NotRegistered = Unregistered (live_of old.rows router now) NotRegistered × (after ≡ before)
RefusesNotice old before after router now TooLarge = Unregistered (live_of old.rows router now) TooLarge × (after ≡ before)
RefusesNotice old before after router now (StoreLoad fault) = LastUnknown old before after router now fault
RefusesNotice old before after router now NonceSpent = LastSpent old before after router now
RefusesNotice old before after router now OutOfMemory = NoticeWithoutRoom old before after router now
RefusesNotice old before after router now (StoreSave fault) = NoticeUnsaved old before after router now fault
RefusesNotice old before after router now NotDue = ⊥

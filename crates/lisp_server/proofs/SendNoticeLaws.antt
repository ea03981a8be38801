-- What a notice that is sent, or isn't, amounts to.
use Rattle.std.proofs.Common.{◌≡◌, ◌≢◌, ℕ, ◌<◌, ◌≤◌, Bool, true, List, [], ◌∷◌, length, Option, Some, None, Result, Ok, Err, ok_or, IsTrue, refl, sym, ap, ◌∙◌, subst, arith}
use Rattle.std.specs.Option.{IfSome}
use Rattle.std.specs.Result.{IfOk, IfErr, OnErr}
use Rattle.std.proofs.lemmas.List.Sorted.{length_permutation}
use Rattle.lisp_records.specs.declared.router.RouterId.{RouterId}
use Rattle.lisp_records.proofs.Cuts.{fits_is}
use Rattle.lisp_records.specs.Parts.{fits_message}
use Rattle.lisp_records.specs.Record.{MapRecordValue}
use Rattle.lisp_records.specs.Row.{RowValue}
use Rattle.lisp_messages.specs.Message.{IsMapNotify}
use Rattle.lisp_messages.specs.Authentic.{signed}
use Rattle.lisp_messages.specs.Written.{written_notify}
use Rattle.lisp_policy.specs.Site.{SiteValue}
use Rattle.lisp_nonces.specs.declared.fault.StoreFault.TheVariants as stores
use Rattle.lisp_nonces.specs.Kept.{Kept, kept_at, SameElsewhere, InDoubt}
use Rattle.lisp_nonces.specs.Store.{StoreState, Proceeds, MaySave}
use Rattle.lisp_lookup.specs.Records.{live_of, ByPrefix}
use Rattle.lisp_lookup.proofs.LiveLaws.{some_row}
use Rattle.lisp_server.specs.declared.contacts.Contact.{Contact}
use Rattle.lisp_server.specs.declared.tables.Tables.{Tables}
use Rattle.lisp_admission.specs.declared.notice_fault.NoticeFault.{NoticeFault}
use Rattle.lisp_admission.specs.declared.notice_fault.NoticeFault.TheVariants as faults
use Rattle.lisp_admission.specs.Nonces.{IsBase, Follows, FollowsNone, NoticeNotKept, nonce_after, KeepsLists, Unasked, FailsToSave}
use Rattle.lisp_server.specs.SendNotice.{IsRegistered, Announces, IsNotice, NoticeWithoutRoom, RefusesNotice, Unregistered, notice_of}
use Rattle.lisp_server.specs.Contacts.{IsHeard, Knows}
use Rattle.lisp_server.specs.LastNonces.{Nonces, nonce_at, SetsNonce}
use Rattle.lisp_admission.specs.Pairs.{notice_pair}
use Rattle.lisp_server.specs.Notices.{StandingNoticeValue, SetsNotice}
use Rattle.lisp_server.specs.Server.{ServerState, SameTables, state_of}
use Rattle.lisp_server.proofs.ContactLaws.{contact_router}
use Rattle.lisp_server.proofs.ReceivingLaws.{cause_later, may_save, fails_to_save}

-- at most 255 records are that also when they are sorted
pub few_left : (given records : List MapRecordValue) → ByPrefix given records → length given ≤ 255 → length records < 256
few_left given records by_prefix few = (let same = length_permutation given records by_prefix.same in omega (arith, same, few))

-- what one message can carry are at most 255 records
pub few_records : (ms : List MapRecordValue) → fits_message ms ≡ true → length ms ≤ 255
few_records ms fits = (fits_is ms fits).0

-- a router with live records was heard
pub heard_of : (sites : List SiteValue) (rows : List RowValue) (contacts : List Contact) (router : RouterId) (now : ℕ) → Knows sites rows contacts → live_of rows router now ≢ [] → IsHeard sites contacts router
heard_of sites rows contacts router now knows some = (let row = some_row rows router now some in knows router row.0 row.1 row.2)

-- where there is an answer, it isn't the fault
pub some_ok : {X E : Type 0} (o : Option X) (fault : E) (P Q : X → Type 0) → (o ≡ None → ⊥) → ((x : X) → P x → Q x) → IfSome o P → IfOk (ok_or o fault) Q
some_ok None fault P Q never wider some = absurd (never refl)
some_ok (Some x) fault P Q never wider some = wider x some

pub no_fault : {X E : Type 0} (o : Option X) (fault : E) (Q : E → Type 0) → (o ≡ None → ⊥) → IfErr (ok_or o fault) Q
no_fault None fault Q never = absurd (never refl)
no_fault (Some x) fault Q never = tt

-- what is known once a notice was sent
pub record Sent {A : Type 0} (sites : List SiteValue) (old mid new : Tables A) (before between after : StoreState) (router : RouterId) (now : ℕ) (contact : Contact) (secret bytes : List ℕ) (nonce : ℕ) (notice : StandingNoticeValue) : Type 0 where
  pub registered : IsRegistered (state_of sites old) router now
  pub contact_is : contact ≡ registered.heard.contact
  pub secret_is : secret ≡ registered.heard.secret
  pub next : Follows (nonce_at old.nonces.nonces notice_pair) before nonce
  pub tells : IsNotice (live_of old.rows.rows contact.router now) contact.key nonce secret bytes
  pub notice_is : notice ≡ record { router = contact.router; to = contact.from; key = contact.key; nonce = nonce; bytes = bytes; resends = 0; last = now }
  pub same : SameTables old mid
  pub rows : new.rows.rows ≡ mid.rows.rows
  pub nonces : SetsNonce mid.nonces.nonces new.nonces.nonces notice_pair notice.nonce
  pub contacts : new.contacts.contacts ≡ mid.contacts.contacts
  pub notices : SetsNotice mid.notices.notices new.notices.notices notice
  pub loaded : KeepsLists before between
  pub went : Proceeds before between
  pub saves : MaySave between
  pub done : IsTrue between.is_honest → kept_at after.kept notice_pair ≡ Some nonce ∷ []
  pub others : IsTrue between.is_honest → SameElsewhere between.kept after.kept notice_pair

module _ {A : Type 0} {sites : List SiteValue} {old mid new : Tables A} {before between after : StoreState} {router : RouterId} {now : ℕ} {contact : Contact} {secret bytes : List ℕ} {nonce : ℕ} {notice : StandingNoticeValue} where
  pub announces : Sent sites old mid new before between after router now contact secret bytes nonce notice → Announces (state_of sites old) (state_of sites new) before after router now contact.from bytes
  announces s = record {
    registered = s.registered;
    last = s.next.0;
    counts = s.next.1;
    unspent = s.next.2;
    records = s.tells.records;
    by_prefix = subst (λ (q : RouterId). ByPrefix (live_of old.rows.rows q now) s.tells.records) own s.tells.by_prefix;
    address = ap (λ (c : Contact). c.from) s.contact_is;
    datagram = s.tells.datagram ∙ (λ i. signed (s.secret_is i) (written_notify (notice_of (s.contact_is i).key (s.next.3 i) s.tells.records)));
    fits = subst (λ (x : ℕ × ℕ). IsMapNotify (notice_of x.0 x.1 s.tells.records)) (λ i. ((s.contact_is i).key, s.next.3 i)) s.tells.fits;
    stands = subst (λ (x : List StandingNoticeValue × StandingNoticeValue). SetsNotice x.0 new.notices.notices x.1) (λ i. (s.same.notices i, standing i)) s.notices;
    nonces = subst (λ (x : Nonces × ℕ). SetsNonce x.0 new.nonces.nonces notice_pair x.1) (λ i. (s.same.nonces i, saved i)) s.nonces;
    rest = λ i. record { sites = sites; rows = rows_are i; nonces = new.nonces.nonces; contacts = contacts_are i; notices = new.notices.notices };
    kept = λ honest. s.done (subst (λ (b : Bool). IsTrue b) (sym s.went.honest) honest) ∙ ap (λ (n : ℕ). Some n ∷ []) s.next.3;
    others = λ honest. subst (λ (was : Kept). SameElsewhere was after.kept notice_pair) (s.loaded honest) (s.others (subst (λ (b : Bool). IsTrue b) (sym s.went.honest) honest));
    saves = may_save s.went s.saves;
  }
    where
      own : contact.router ≡ router
      own = ap (λ (c : Contact). c.router) s.contact_is ∙ contact_router old.contacts.contacts router s.registered.heard.contact s.registered.heard.heard

      saved : notice.nonce ≡ nonce_after s.next.0
      saved = ap (λ (n : StandingNoticeValue). n.nonce) s.notice_is ∙ s.next.3

      standing : notice ≡ record { router = router; to = contact.from; key = s.registered.heard.contact.key; nonce = nonce_after s.next.0; bytes = bytes; resends = 0; last = now }
      standing = s.notice_is ∙ (λ i. record { router = own i; to = contact.from; key = (s.contact_is i).key; nonce = s.next.3 i; bytes = bytes; resends = 0; last = now })

      rows_are : new.rows.rows ≡ old.rows.rows
      rows_are = s.rows ∙ s.same.rows

      contacts_are : new.contacts.contacts ≡ old.contacts.contacts
      contacts_are = s.contacts ∙ s.same.contacts

-- no notice was sent
module _ (s : ServerState) (router : RouterId) (now : ℕ) where
  pub refuses_unregistered : (fault : NoticeFault) (before : StoreState) → Unregistered (live_of s.rows router now) fault → RefusesNotice s before before router now fault
  refuses_unregistered faults.NotRegistered before why = (why, refl)
  refuses_unregistered faults.TooLarge before why = (why, refl)
  refuses_unregistered (faults.StoreLoad _) before why = absurd why
  refuses_unregistered faults.NonceSpent before why = absurd why
  refuses_unregistered faults.OutOfMemory before why = absurd why
  refuses_unregistered (faults.StoreSave _) before why = absurd why
  refuses_unregistered faults.NotDue before why = absurd why

  pub refuses_unfollowed : (fault : NoticeFault) (before after : StoreState) (known : Option ℕ) → known ≡ nonce_at s.nonces notice_pair → IsRegistered s router now → Unasked known before after → KeepsLists before after → FollowsNone known before after fault → RefusesNotice s before after router now fault
  refuses_unfollowed fault before after known is registered unasked same = subst (λ (last : Option ℕ). Unasked last before after → FollowsNone last before after fault → RefusesNotice s before after router now fault) (sym is) (own fault) unasked
    where
      own : (fault : NoticeFault) → Unasked (nonce_at s.nonces notice_pair) before after → FollowsNone (nonce_at s.nonces notice_pair) before after fault → RefusesNotice s before after router now fault
      own (faults.StoreLoad fault) unasked (unknown, cause, memory, armed) = record { registered = registered; unknown = unknown; cause = cause; memory = memory; same = same; armed = armed }
      own faults.NonceSpent unasked spent = record { registered = registered; spent = spent; unasked = unasked; same = same }
      own faults.NotRegistered unasked never = absurd never
      own faults.TooLarge unasked never = absurd never
      own faults.OutOfMemory unasked never = absurd never
      own (faults.StoreSave _) unasked never = absurd never
      own faults.NotDue unasked never = absurd never

  pub without_room : (before after : StoreState) (known : Option ℕ) (nonce : ℕ) → known ≡ nonce_at s.nonces notice_pair → IsRegistered s router now → Follows known before nonce → Unasked known before after → KeepsLists before after → NoticeWithoutRoom s before after router now
  without_room before after known nonce is registered next unasked same = record {
    registered = registered;
    last = next.0;
    counts = subst (λ (last : Option ℕ). IsBase last before notice_pair next.0) is next.1;
    unspent = next.2;
    unasked = subst (λ (last : Option ℕ). Unasked last before after) is unasked;
    same = same;
  }

  pub refuses_unsaved : (fault : NoticeFault) (before between after : StoreState) (known : Option ℕ) (nonce : ℕ) → known ≡ nonce_at s.nonces notice_pair → IsRegistered s router now → Follows known before nonce → Proceeds before between → KeepsLists before between → (IsTrue between.is_honest → SameElsewhere between.kept after.kept notice_pair) → NoticeNotKept between after nonce fault → RefusesNotice s before after router now fault
  refuses_unsaved (faults.StoreSave fault) before between after known nonce is registered next went loaded others not_kept = record {
    registered = registered;
    last = next.0;
    counts = subst (λ (last : Option ℕ). IsBase last before notice_pair next.0) is next.1;
    unspent = next.2;
    cause = cause_later fault before between after went.count not_kept.0;
    sound = not_kept.1;
    memory = λ want honest. ap (λ (x : StoreState). x.kept) (not_kept.3 want) ∙ loaded honest;
    doubt = λ honest. subst (λ (x : Kept × ℕ). InDoubt (kept_at x.0 notice_pair) (kept_at after.kept notice_pair) x.1) (λ i. (loaded honest i, next.3 i)) (not_kept.2 (subst (λ (b : Bool). IsTrue b) (sym went.honest) honest));
    others = λ honest. subst (λ (was : Kept). SameElsewhere was after.kept notice_pair) (loaded honest) (others (subst (λ (b : Bool). IsTrue b) (sym went.honest) honest));
    doubted = subst (λ (n : ℕ). FailsToSave fault before after notice_pair n) next.3 (fails_to_save went fault after notice_pair nonce loaded not_kept.4);
  }
  refuses_unsaved faults.NotRegistered before between after known nonce is registered next went loaded others never = absurd never
  refuses_unsaved faults.TooLarge before between after known nonce is registered next went loaded others never = absurd never
  refuses_unsaved (faults.StoreLoad _) before between after known nonce is registered next went loaded others never = absurd never
  refuses_unsaved faults.NonceSpent before between after known nonce is registered next went loaded others never = absurd never
  refuses_unsaved faults.OutOfMemory before between after known nonce is registered next went loaded others never = absurd never
  refuses_unsaved faults.NotDue before between after known nonce is registered next went loaded others never = absurd never

-- where memory is told to have run out, it may have been refused: that of the tables, or the store's
module _ (A S : Type 0) where
  abbrev MemoryTold : NoticeFault → Type 0
  MemoryTold fault = (fault ≡ faults.OutOfMemory → A) × (fault ≡ faults.StoreLoad stores.OutOfMemory → S) × (fault ≡ faults.StoreSave stores.OutOfMemory → S)

  pub told_unregistered : (live : List MapRecordValue) (e : NoticeFault) → Unregistered live e → MemoryTold e
  told_unregistered live e why = ((λ is. absurd (subst (Unregistered live) is why)), (λ is. absurd (subst (Unregistered live) is why)), (λ is. absurd (subst (Unregistered live) is why)))

  pub told_unfollowed : (known : Option ℕ) (before after : StoreState) (e : NoticeFault) → FollowsNone known before after e → (e ≡ faults.StoreLoad stores.OutOfMemory → S) → MemoryTold e
  told_unfollowed known before after e why load = ((λ is. absurd (subst (FollowsNone known before after) is why)), load, (λ is. absurd (subst (FollowsNone known before after) is why)))

  pub told_unsaved : (before after : StoreState) (nonce : ℕ) (e : NoticeFault) → NoticeNotKept before after nonce e → (e ≡ faults.StoreSave stores.OutOfMemory → S) → MemoryTold e
  told_unsaved before after nonce e why save = ((λ is. absurd (subst (NoticeNotKept before after nonce) is why)), (λ is. absurd (subst (NoticeNotKept before after nonce) is why)), save)

  abbrev IsOutOfMemory : NoticeFault → Type 0
  IsOutOfMemory faults.OutOfMemory = Unit {0}
  IsOutOfMemory _ = ⊥

  pub told_memory : A → MemoryTold faults.OutOfMemory
  told_memory may = ((λ _. may), (λ is. absurd (subst IsOutOfMemory is tt)), (λ is. absurd (subst IsOutOfMemory is tt)))

-- a notice that is sent, or isn't, leaves the rows and the contacts
pub known_still : {A X : Type 0} (sites : List SiteValue) (old new : Tables A) (r : Result X NoticeFault) (P : X → Type 0) → ((x : X) → P x → state_of sites new ≡ record (state_of sites old) { notices = new.notices.notices; nonces = new.nonces.nonces }) → IfOk r P → OnErr r (SameTables old new) → Knows sites old.rows.rows old.contacts.contacts → Knows sites new.rows.rows new.contacts.contacts
known_still sites old new (Ok x) P rest sent same = subst (λ (s : ServerState). Knows sites s.rows s.contacts) (sym (rest x sent))
known_still sites old new (Err why) P rest sent same = subst (λ (x : List RowValue × List Contact). Knows sites x.0 x.1) (λ i. (sym same.rows i, sym same.contacts i))

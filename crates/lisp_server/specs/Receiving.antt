-- What a Map-Server makes of a message (RFC 9301 sections 5.6 and 8.2).
use Rattle.std.specs.Prelude.{◌≡◌, ◌≢◌, ◌≤◌, ◌⊎◌, ℕ, List, [], ◌∷◌, Option, Some, None, Result, Ok, Err, IsTrue, IsOk}
use Rattle.lisp_records.specs.declared.address.Addr.{Addr}
use Rattle.lisp_records.specs.declared.router.RouterId.{RouterId}
use Rattle.lisp_messages.specs.Message.{MapRegisterValue, Registers, MapNotifyValue, IsMapNotify, Notifies, MessageValue}
use Rattle.lisp_messages.specs.Reading.{HasRecords, kind_at, message_at}
use Rattle.lisp_messages.specs.declared.fault.ReadFault.{ReadFault}
use Rattle.lisp_nonces.specs.declared.pair.Pair.{Pair}
use Rattle.lisp_nonces.specs.declared.fault.StoreFault.{StoreFault}
use Rattle.lisp_nonces.specs.declared.fault.StoreFault.TheVariants as faults
use Rattle.lisp_nonces.specs.Kept.{kept_at, SameElsewhere, InDoubt}
use Rattle.lisp_nonces.specs.Store.{StoreState, Rose, MaySave}
use Rattle.lisp_admission.specs.declared.refused.Refused.{Refused}
use Rattle.lisp_admission.specs.declared.refused.Refused.TheVariants.{Read, StoreLoad, Replay, Jump, Full as FullOf, OutOfMemory, StoreSave}
use Rattle.lisp_admission.specs.Refused.{refused_of_read}
use Rattle.lisp_server.specs.declared.took.Took.{Took}
use Rattle.lisp_server.specs.declared.took.Took.TheVariants.{Accepted, NoticeDone}
use Rattle.lisp_server.specs.declared.contacts.Contact.{Contact}
use Rattle.lisp_admission.specs.Pairs.{router_of, pair_of}
use Rattle.lisp_admission.specs.AcceptedRows.{row_values}
use Rattle.lisp_policy.specs.declared.full.Full.{Full}
use Rattle.lisp_lookup.specs.Table.{Sets}
use Rattle.lisp_lookup.specs.Growth.{LiveRows, live_rows, live_rows_with, Fits, IsFull}
use Rattle.lisp_server.specs.LastNonces.{nonce_at, SetsNonce}
use Rattle.lisp_server.specs.Contacts.{SetsContact}
use Rattle.lisp_server.specs.Notices.{StandingNoticeValue, EndsNotice}
use Rattle.lisp_server.specs.Server.{ServerState}
use Rattle.lisp_admission.specs.Checks.{reply_to, most_jump_at, most_routers_at, most_rows_at}
use Rattle.lisp_server.specs.Checks.{Passed, register_checked, Acknowledges, RefusesAck, reply_of}
use Rattle.lisp_admission.specs.Nonces.{IsBase, IsBelow, IsFar, IsFresh, IsNear, KeepsLists, Unasked, HasCause, FailsToLoad, FailsToSave}

-- the nonce is above each value that may be its base, and near it
abbrev pub FollowsAnyBase : Option ℕ → Option ℕ → StoreState → Pair → ℕ → Type 0
FollowsAnyBase jump last store pair nonce = (base : Option ℕ) → IsBase last store pair base → IsBelow base nonce × IsNear jump base nonce

-- the live rows that are held at a moment once a Map-Register is accepted
abbrev pub rows_with : ServerState → MapRegisterValue → Addr → ℕ → LiveRows
rows_with s m from now = live_rows_with s.rows (row_values m from now) now

-- the limits of its site on what is held let it in
abbrev pub HasSpace : ServerState → MapRegisterValue → Addr → ℕ → Type 0
HasSpace s m from now = Fits (most_routers_at s.sites m.site) (most_rows_at s.sites m.site) m.site (live_rows s.rows now) (rows_with s m from now)

-- or not, and which
abbrev pub LacksSpace : ServerState → MapRegisterValue → Addr → ℕ → Full → Type 0
LacksSpace s m from now full = IsFull (most_routers_at s.sites m.site) (most_rows_at s.sites m.site) m.site (live_rows s.rows now) (rows_with s m from now) full

-- where a router was heard last
abbrev pub contact_of : MapRegisterValue → Addr → Contact
contact_of m from = record { router = router_of m; key = m.key_id; from = from }

-- a Map-Register was accepted: it passed all checks with a fresh nonce, which an honest store keeps
-- alone for its pair from now on; its site has space for its records, which were set, and no others; the answer is its own,
-- and fits the format
pub record Accepts {A : Type 0} (check : Result Passed Refused) (old new : ServerState) (before after : StoreState) (from : Addr) (now : ℕ) (took : Took A) : Type 0 where
  pub passed : Passed
  pub checks : check ≡ Ok passed
  pub fits : IsMapNotify (reply_to passed.message)
  pub fresh : IsFresh (most_jump_at old.sites passed.message.site) (nonce_at old.nonces (pair_of passed.message)) before (pair_of passed.message) passed.message.nonce
  pub space : HasSpace old passed.message from now
  pub answer : took ≡ Accepted (router_of passed.message) passed.message.key_id passed.message.nonce (reply_of passed.secret passed.message)
  pub rows : Sets old.rows new.rows (row_values passed.message from now)
  pub nonces : SetsNonce old.nonces new.nonces (pair_of passed.message) passed.message.nonce
  pub contacts : SetsContact old.contacts new.contacts (contact_of passed.message from)
  pub notices : new.notices ≡ old.notices
  pub sites : new.sites ≡ old.sites
  pub kept : IsTrue before.is_honest → kept_at after.kept (pair_of passed.message) ≡ Some passed.message.nonce ∷ []
  pub others : IsTrue before.is_honest → SameElsewhere before.kept after.kept (pair_of passed.message)
  -- an obedient store was armed to save
  pub saves : MaySave before

-- a Map-Notify-Ack ended an unsolicited Map-Notify (notice) that it acknowledges, and changed nothing else
pub record Ends (from : Addr) (bytes : List ℕ) (m : MapNotifyValue) (old new : ServerState) (before after : StoreState) (router : RouterId) (nonce : ℕ) : Type 0 where
  pub notice : StandingNoticeValue
  pub acknowledges : Acknowledges old.sites old.notices from bytes m notice
  pub its : router ≡ notice.router
  pub under : nonce ≡ notice.nonce
  pub ended : EndsNotice old.notices new.notices notice.router
  pub rest : new ≡ record old { notices = new.notices }
  pub store : after ≡ before

-- the message that bytes from an address spell was taken
abbrev pub ServerTakes : {A : Type 0} → Result MessageValue ReadFault → Addr → List ℕ → ServerState → ServerState → StoreState → StoreState → ℕ → Took A → Type 0
ServerTakes {A = A} (Ok (Registers m)) from bytes old new before after now (Accepted router key nonce reply) = Accepts {A = A} (register_checked old.sites from bytes m) old new before after from now (Accepted router key nonce reply)
ServerTakes (Ok (Notifies m)) from bytes old new before after now (NoticeDone router nonce) = Ends from bytes m old new before after router nonce
ServerTakes _ from bytes old new before after now _ = ⊥

-- the message is the one that the bytes spell
abbrev pub TakesMessage : {A : Type 0} → Addr → List ℕ → ServerState → ServerState → StoreState → StoreState → ℕ → Took A → Type 0
TakesMessage from bytes old new before after now took = ServerTakes (message_at bytes) from bytes old new before after now took

-- the pair's base can't be loaded from the store, which is unchanged if memory ran out in that
pub record LoadFailed (check : Result Passed Refused) (old : ServerState) (before after : StoreState) (fault : StoreFault) : Type 0 where
  pub passed : Passed
  pub checks : check ≡ Ok passed
  pub unknown : nonce_at old.nonces (pair_of passed.message) ≡ None
  pub cause : HasCause fault before after
  pub memory : fault ≡ faults.OutOfMemory → after ≡ before
  pub same : KeepsLists before after
  -- but for memory, an obedient store was armed to fail
  pub armed : FailsToLoad fault before

-- the nonce isn't above the base
pub record Replays (check : Result Passed Refused) (old : ServerState) (before after : StoreState) (saved : ℕ) : Type 0 where
  pub passed : Passed
  pub checks : check ≡ Ok passed
  pub base : IsBase (nonce_at old.nonces (pair_of passed.message)) before (pair_of passed.message) (Some saved)
  pub stale : passed.message.nonce ≤ saved
  pub unasked : Unasked (nonce_at old.nonces (pair_of passed.message)) before after
  pub same : KeepsLists before after

-- the nonce is too far above the base
pub record Jumps (check : Result Passed Refused) (old : ServerState) (before after : StoreState) (site saved : ℕ) : Type 0 where
  pub passed : Passed
  pub checks : check ≡ Ok passed
  pub its : site ≡ passed.message.site
  pub base : IsBase (nonce_at old.nonces (pair_of passed.message)) before (pair_of passed.message) (Some saved)
  pub far : IsFar (most_jump_at old.sites passed.message.site) saved passed.message.nonce
  pub unasked : Unasked (nonce_at old.nonces (pair_of passed.message)) before after
  pub same : KeepsLists before after

-- the nonce was fresh, and the site has no space for the records
pub record Overflows (check : Result Passed Refused) (old : ServerState) (before after : StoreState) (from : Addr) (now site : ℕ) (full : Full) : Type 0 where
  pub passed : Passed
  pub checks : check ≡ Ok passed
  pub its : site ≡ passed.message.site
  pub fresh : IsFresh (most_jump_at old.sites passed.message.site) (nonce_at old.nonces (pair_of passed.message)) before (pair_of passed.message) passed.message.nonce
  pub lacks : LacksSpace old passed.message from now full
  pub unasked : Unasked (nonce_at old.nonces (pair_of passed.message)) before after
  pub same : KeepsLists before after

-- the nonce was fresh, and it is open whether it is kept; not where memory ran out: then no list changed
pub record SaveFailed (check : Result Passed Refused) (old : ServerState) (before after : StoreState) (from : Addr) (now : ℕ) (fault : StoreFault) : Type 0 where
  pub passed : Passed
  pub checks : check ≡ Ok passed
  pub fresh : IsFresh (most_jump_at old.sites passed.message.site) (nonce_at old.nonces (pair_of passed.message)) before (pair_of passed.message) passed.message.nonce
  pub space : HasSpace old passed.message from now
  pub cause : HasCause fault before after
  pub sound : fault ≢ faults.Damaged
  pub memory : fault ≡ faults.OutOfMemory → KeepsLists before after
  pub doubt : IsTrue before.is_honest → InDoubt (kept_at before.kept (pair_of passed.message)) (kept_at after.kept (pair_of passed.message)) passed.message.nonce
  pub others : IsTrue before.is_honest → SameElsewhere before.kept after.kept (pair_of passed.message)
  -- but for memory, an obedient store was armed to fail, and keeps the nonce too
  pub doubted : FailsToSave fault before after (pair_of passed.message) passed.message.nonce

-- the nonce was fresh, and memory ran out before it was saved
pub record OutOfRoom (check : Result Passed Refused) (old : ServerState) (before after : StoreState) : Type 0 where
  pub passed : Passed
  pub checks : check ≡ Ok passed
  pub fresh : IsFresh (most_jump_at old.sites passed.message.site) (nonce_at old.nonces (pair_of passed.message)) before (pair_of passed.message) passed.message.nonce
  pub unasked : Unasked (nonce_at old.nonces (pair_of passed.message)) before after
  pub same : KeepsLists before after

-- a Map-Register was refused: what the refusal means, and what it leaves of the store
abbrev pub RefusesRegister : Result Passed Refused → ServerState → StoreState → StoreState → Addr → ℕ → Refused → Type 0
RefusesRegister check old before after from now (StoreLoad fault) = LoadFailed check old before after fault
RefusesRegister check old before after from now (Replay saved) = Replays check old before after saved
RefusesRegister check old before after from now (Jump site saved) = Jumps check old before after site saved
RefusesRegister check old before after from now OutOfMemory = OutOfRoom check old before after
RefusesRegister check old before after from now (FullOf site full) = Overflows check old before after from now site full
RefusesRegister check old before after from now (StoreSave fault) = SaveFailed check old before after from now fault
RefusesRegister check old before after from now refused = (check ≡ Err refused) × (after ≡ before)

-- bytes with a fault before their records are refused for it
abbrev pub RefusesBadHead : {X : Type 0} → List ℕ → Result X Refused → Type 0
RefusesBadHead bytes answer = (fault : ReadFault) → kind_at bytes ≡ Err fault → answer ≡ Err (refused_of_read fault)

-- what was read was refused
abbrev pub RefusesRead : Result MessageValue ReadFault → Addr → List ℕ → ServerState → StoreState → StoreState → ℕ → Refused → Type 0
RefusesRead (Ok (Registers m)) from bytes old before after now why = RefusesRegister (register_checked old.sites from bytes m) old before after from now why
RefusesRead (Ok (Notifies m)) from bytes old before after now why = RefusesAck old.sites old.notices from bytes m why × (after ≡ before)
RefusesRead (Err fault) from bytes old before after now why = (why ≡ Read fault) × (after ≡ before)

-- the message that bytes from an address spell was refused: as what was read, but that memory may also
-- have run out in reading records, which leaves the store untouched
abbrev pub ServerRefuses : Result MessageValue ReadFault → Addr → List ℕ → ServerState → StoreState → StoreState → ℕ → Refused → Type 0
ServerRefuses said from bytes old before after now OutOfMemory = (HasRecords bytes × (after ≡ before)) ⊎ RefusesRead said from bytes old before after now OutOfMemory
ServerRefuses said from bytes old before after now why = RefusesRead said from bytes old before after now why

-- the message is the one that the bytes spell
abbrev pub RefusesMessage : Addr → List ℕ → ServerState → StoreState → StoreState → ℕ → Refused → Type 0
RefusesMessage from bytes old before after now why = ServerRefuses (message_at bytes) from bytes old before after now why

-- what was read from an address is a Map-Register that passes all checks, with a nonce that follows each value that may be its base,
-- and its site has space for its records
pub record IsAcceptable (said : Result MessageValue ReadFault) (from : Addr) (bytes : List ℕ) (s : ServerState) (store : StoreState) (now : ℕ) : Type 0 where
  pub register : MapRegisterValue
  pub spelled : said ≡ Ok (Registers register)
  pub passed : Passed
  pub checks : register_checked s.sites from bytes register ≡ Ok passed
  pub fresh : FollowsAnyBase (most_jump_at s.sites passed.message.site) (nonce_at s.nonces (pair_of passed.message)) store (pair_of passed.message) passed.message.nonce
  pub space : HasSpace s passed.message from now

-- it is accepted, unless a device failed in between
abbrev pub AcceptsUnlessFailed : {X E : Type 0} → Addr → List ℕ → ServerState → StoreState → StoreState → ℕ → Result X E → Type 0
AcceptsUnlessFailed from bytes s before after now answer = (Rose before after → ⊥) → IsAcceptable (message_at bytes) from bytes s before now → IsOk answer

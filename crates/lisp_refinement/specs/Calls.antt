-- What one call of a node comes to, in its core's words: its store is armed with the event's fate, the core is called,
-- and the store is armed with `Done` again.
use Rattle.std.specs.Prelude.{◌≡◌, ◌≢◌, ℕ, ◌+◌, ◌<◌, ◌≤◌, List, [], ◌∷◌, length, Option, Result, Ok, Err, IfOk, IfErr, OnErr, IsErrOf, IsTrue}
use Rattle.std.specs.Option.{unwrap_or}
use Rattle.lisp_records.specs.declared.address.Addr.{Addr}
use Rattle.lisp_records.specs.declared.router.RouterId.{RouterId}
use Rattle.lisp_records.specs.Database.{database_of as checked_database}
use Rattle.lisp_records.specs.Parts.{part_count}
use Rattle.lisp_records.specs.Record.{MapRecordValue}
use Rattle.lisp_messages.specs.Message.{IsMapRegister}
use Rattle.lisp_messages.specs.Reading.{HasHead, message_at}
use Rattle.lisp_nonces.specs.declared.fate.Fate.{Fate}
use Rattle.lisp_nonces.specs.declared.fate.Fate.TheVariants.{Done}
use Rattle.lisp_nonces.specs.declared.fault.StoreFault.{StoreFault}
use Rattle.lisp_nonces.specs.declared.fault.StoreFault.TheVariants as faults
use Rattle.lisp_nonces.specs.declared.pair.Pair.{Pair}
use Rattle.lisp_nonces.specs.Kept.{kept_at, with_value, picked, IsKept, NoneBelow, SameElsewhere, Narrows}
use Rattle.lisp_nonces.specs.Store.{StoreState, Rose, Proceeds, MayLoad, MaySave, MayFailSave}
use Rattle.lisp_nonces.specs.Promises.{KeepsListsIfHonest, KeepsSomeIfHonest, IsOfDevice, LoadFailsAsArmed}
use Rattle.lisp_etr.specs.Config.{EtrConfigValue, sent_pair, sent_pair_under, with_key}
use Rattle.lisp_etr.specs.Etr.{EtrState, etr_started, etr_rotated}
use Rattle.lisp_etr.specs.Hearing.{Gives, AnswerFits, TakesMemory, seen_at, etr_after}
use Rattle.lisp_etr.specs.Sending.{last_nonce, next_register, next_datagram, NoServerAt, NoPartFor, NoNonceFor, block_end, EtrSends, Settles, LeavesPair}
use Rattle.lisp_etr.specs.declared.notify_fault.NotifyFault.{NotifyFault}
use Rattle.lisp_etr.specs.declared.notify_fault.NotifyFault.TheVariants as notify_faults
use Rattle.lisp_etr.specs.declared.seen.Seen.{Seen}
use Rattle.lisp_etr.specs.declared.send_fault.SendFault.{SendFault}
use Rattle.lisp_etr.specs.declared.send_fault.SendFault.TheVariants.{NoServer, NoPart, NonceSpent, Store}
use Rattle.lisp_etr.specs.declared.rotate_fault.RotateFault.{RotateFault}
use Rattle.lisp_etr.specs.declared.rotate_fault.RotateFault.TheVariants as rotate_faults
use Rattle.lisp_etr.specs.declared.start_fault.StartFault.{StartFault}
use Rattle.lisp_etr.specs.declared.start_fault.StartFault.TheVariants as start_faults
use Rattle.lisp_admission.specs.declared.refused.Refused.{Refused}
use Rattle.lisp_admission.specs.declared.refused.Refused.TheVariants as refuseds
use Rattle.lisp_admission.specs.declared.notice_fault.NoticeFault.{NoticeFault}
use Rattle.lisp_lookup.specs.Table.{OneEach}
use Rattle.lisp_server.specs.declared.took.Took.{Took}
use Rattle.lisp_server.specs.Receiving.{ServerTakes, ServerRefuses}
use Rattle.lisp_server.specs.SendNotice.{Announces, RefusesNotice}
use Rattle.lisp_refinement.specs.World.{ServerNodeState, RouterNodeState, RouterCoreState, Up, Down, UsesKeyAfterLoss}

-- a store was armed with a fate, which an obedient one shows, and nothing else changed; with `Done` that one fails no
-- more
pub record Arms (old : StoreState) (fate : Fate) (new : StoreState) : Type 0 where
  pub kept : new.kept ≡ old.kept
  pub count : new.faults ≡ old.faults
  pub honest : new.is_honest ≡ old.is_honest
  pub obedient : new.is_obedient ≡ old.is_obedient
  pub armed_with : IsTrue old.is_obedient → new.fate ≡ fate
  pub quiet : IsTrue old.is_obedient → fate ≡ Done → IsTrue new.is_quiet

-- what an event makes of a store: armed for the call, used in it, and armed with `Done`
pub record UsesStore (old : StoreState) (fate : Fate) (armed called new : StoreState) : Type 0 where
  pub arms : Arms old fate armed
  pub proceeds : Proceeds armed called
  pub disarms : Arms called Done new

-- a Map-Server received bytes from an address
pub record NodeReceives {A : Type 0} (old new : ServerNodeState) (fate : Fate) (from : Addr) (bytes : List ℕ) (now : ℕ)
    (answer : Result (Took A) Refused) : Type 0 where
  pub armed : StoreState
  pub called : StoreState
  pub uses : UsesStore old.store fate armed called new.store
  pub taken : IfOk answer (λ took. ServerTakes (message_at bytes) from bytes old.core new.core armed called now took)
  pub refused : IfErr answer (λ why. ServerRefuses (message_at bytes) from bytes old.core armed called now why)
  pub err : OnErr answer (new.core ≡ old.core)
  pub started : new.started ≡ old.started
  pub head : IsErrOf answer refuseds.OutOfMemory → HasHead bytes

-- a Map-Server was asked to send a router a notice: to which address which bytes, or why not
pub record NodeNotifies (old new : ServerNodeState) (fate : Fate) (router : RouterId) (now : ℕ)
    (answer : Result (Addr × List ℕ) NoticeFault) : Type 0 where
  pub armed : StoreState
  pub called : StoreState
  pub uses : UsesStore old.store fate armed called new.store
  pub announces : IfOk answer (λ x. Announces old.core new.core armed called router now x.0 x.1)
  pub refused : IfErr answer (λ fault. RefusesNotice old.core armed called router now fault)
  pub err : OnErr answer (new.core ≡ old.core)
  pub started : new.started ≡ old.started
  pub one_each : OneEach old.core.rows

-- what a router's store keeps of the nonces that it sends under
abbrev pub sent_kept : StoreState → EtrState → List (Option ℕ)
sent_kept store e = kept_at store.kept (sent_pair e.config)

-- a router that is up sent a Map-Register of a part of its database to the Map-Server at a place of its list
pub record CoreSends (old new : EtrState) (armed called : StoreState) (place part now : ℕ) (bytes : List ℕ) : Type 0 where
  pub within : place < length old.config.servers
  pub there : part < part_count old.database
  pub fits : checked_database old.database ≡ Ok old.database
  pub left : old.last < last_nonce
  pub datagram : bytes ≡ next_datagram old part
  pub known : IsMapRegister (next_register old part)
  pub sends : EtrSends old new place part now
  pub safe : old.last + 1 ≤ new.safe
  pub keeps_safe : IsTrue armed.is_honest → NoneBelow old.safe (sent_kept armed old)
      → NoneBelow new.safe (sent_kept called old)
  pub settles : IsTrue armed.is_honest
      → Settles (sent_kept armed old) (sent_kept called old) (old.last + 1) old.config.nonce_block
  pub unasked : old.last + 1 ≤ old.safe → called ≡ armed
  pub saves : old.safe < old.last + 1 → MaySave armed
  pub others : IsTrue armed.is_honest → SameElsewhere armed.kept called.kept (sent_pair old.config)

-- why it didn't: the first reason that applies
abbrev pub IsSendFaultOf : EtrState → ℕ → ℕ → SendFault → Type 0
IsSendFaultOf e place part NoServer = NoServerAt e place
IsSendFaultOf e place part NoPart = NoPartFor e place part
IsSendFaultOf e place part NonceSpent = NoNonceFor e place part
IsSendFaultOf e place part _ =
    (place < length e.config.servers) × (part < part_count e.database) × (e.last < last_nonce)

pub record CoreRefusesToSend (old new : EtrState) (armed called : StoreState) (place part : ℕ) (fault : SendFault)
    : Type 0 where
  pub why : IsSendFaultOf old place part fault
  pub err : new ≡ old
  pub keeps_safe : IsTrue armed.is_honest → NoneBelow old.safe (sent_kept armed old)
      → NoneBelow old.safe (sent_kept called old)
  pub leaves : IsTrue armed.is_honest
      → LeavesPair (sent_kept armed old) (sent_kept called old) (old.last + 1) old.config.nonce_block
  pub others : IsTrue armed.is_honest → SameElsewhere armed.kept called.kept (sent_pair old.config)
  pub refused : fault ≢ Store faults.Device → called ≡ armed
  pub cause : fault ≡ Store faults.Device → Rose armed called
  pub sound : fault ≢ Store faults.Damaged
  pub save_fails : fault ≡ Store faults.Device → MayFailSave armed
  pub doubted : fault ≡ Store faults.Device → IsTrue armed.is_obedient
      → sent_kept called old ≡ with_value (sent_kept armed old) (block_end (old.last + 1) old.config.nonce_block)

abbrev pub CoreAnswersSend : EtrState → EtrState → StoreState → StoreState → ℕ → ℕ → ℕ → Result (List ℕ) SendFault
    → Type 0
CoreAnswersSend old new armed called place part now (Ok bytes) = CoreSends old new armed called place part now bytes
CoreAnswersSend old new armed called place part now (Err fault) =
    CoreRefusesToSend old new armed called place part fault

-- its store used in that
pub record CoreAnswersSendOver (old new : EtrState) (before after : StoreState) (fate : Fate) (place part now : ℕ)
    (answer : Result (List ℕ) SendFault) : Type 0 where
  pub armed : StoreState
  pub called : StoreState
  pub uses : UsesStore before fate armed called after
  pub call : CoreAnswersSend old new armed called place part now answer

-- a router that is up went over to another key: its last nonce under it is one that may be kept for it
pub record CoreRotates (old new : EtrState) (key_id : ℕ) (secret : List ℕ) (armed called : StoreState) (now : ℕ)
    : Type 0 where
  pub other : key_id ≢ old.config.key_id
  pub rotates : new ≡ etr_rotated old key_id secret new.last now
  pub last : IsTrue armed.is_honest → IsKept (kept_at armed.kept (sent_pair_under old.config key_id)) new.last
  pub loads : MayLoad armed

-- why it didn't: the first reason that applies
abbrev pub IsRotateFaultOf : EtrState → ℕ → StoreState → StoreState → RotateFault → Type 0
IsRotateFaultOf e key_id armed called rotate_faults.SameKey = (key_id ≡ e.config.key_id) × (called ≡ armed)
IsRotateFaultOf e key_id armed called (rotate_faults.Store fault) =
    (key_id ≢ e.config.key_id) × IsOfDevice armed called fault × LoadFailsAsArmed armed fault

abbrev pub CoreAnswersRotate : EtrState → EtrState → ℕ → List ℕ → StoreState → StoreState → ℕ
    → Result (Unit {0}) RotateFault → Type 0
CoreAnswersRotate old new key_id secret armed called now (Ok done) =
    CoreRotates old new key_id secret armed called now
CoreAnswersRotate old new key_id secret armed called now (Err fault) =
    (new ≡ old) × IsRotateFaultOf old key_id armed called fault

-- its store used in that
pub record CoreAnswersRotateOver (old new : EtrState) (before after : StoreState) (key_id : ℕ) (secret : List ℕ)
    (fate : Fate) (now : ℕ) (answer : Result (Unit {0}) RotateFault) : Type 0 where
  pub armed : StoreState
  pub called : StoreState
  pub uses : UsesStore before fate armed called after
  pub call : CoreAnswersRotate old new key_id secret armed called now answer
  pub same : KeepsListsIfHonest armed called

-- a router that is up received bytes from an address
pub record CoreHears {A : Type 0} (old new : EtrState) (from : Addr) (bytes : List ℕ)
    (answer : Result (Seen A) NotifyFault) : Type 0 where
  pub gives : Gives (λ seen. seen) answer (seen_at {A = A} old from bytes)
  pub after : new ≡ etr_after old answer
  pub fits : IfOk answer (λ seen. AnswerFits old.config.key_id seen)
  pub grows : IsErrOf answer notify_faults.OutOfMemory → TakesMemory old.config from bytes

-- a router starts, or doesn't and is down
pub record CoreStarts (config : EtrConfigValue) (database : List MapRecordValue) (now : ℕ)
    (before after : StoreState) (core : RouterCoreState) : Type 0 where
  pub etr : EtrState
  pub up : core ≡ Up etr
  pub starts : etr ≡ etr_started config database etr.last now
  pub last : IsTrue before.is_honest → IsKept (kept_at before.kept (sent_pair config)) etr.last

pub record CoreRefusesToStart (config : EtrConfigValue) (database : List MapRecordValue) (before after : StoreState)
    (core : RouterCoreState) (fault : StartFault) : Type 0 where
  pub down : core ≡ Down config database
  pub cause : (f : StoreFault) → fault ≡ start_faults.Store f → f ≢ faults.OutOfMemory → Rose before after

abbrev pub CoreAnswersStart : EtrConfigValue → List MapRecordValue → ℕ → StoreState → StoreState → RouterCoreState
    → Result (Unit {0}) StartFault → Type 0
CoreAnswersStart config database now before after core (Ok done) =
    CoreStarts config database now before after core
CoreAnswersStart config database now before after core (Err fault) =
    CoreRefusesToStart config database before after core fault

-- a router starts over its store
pub record CoreAnswersStartOver (config : EtrConfigValue) (database : List MapRecordValue) (now : ℕ)
    (before after : StoreState) (core : RouterCoreState) (answer : Result (Unit {0}) StartFault) : Type 0 where
  pub starts : CoreAnswersStart config database now before after core answer
  pub same : IsTrue before.is_honest → after.kept ≡ before.kept
  pub proceeds : Proceeds before after

-- a store after a crash: of an obedient one the value at a place is left, or the last
pub record StoreRestarts (old new : StoreState) (pick : ℕ) : Type 0 where
  pub narrows : IsTrue old.is_honest → (q : Pair) → Narrows (kept_at old.kept q) (kept_at new.kept q)
  pub picks : IsTrue old.is_obedient → (q : Pair) → kept_at new.kept q ≡ picked (kept_at old.kept q) pick ∷ []
  pub proceeds : Proceeds old new

-- a store after what it kept was lost: some value may be kept for each pair
pub record StoreLoses (old new : StoreState) : Type 0 where
  pub some : KeepsSomeIfHonest new
  pub proceeds : Proceeds old new

-- what a router is configured with, and what it registers
abbrev pub config_of : RouterCoreState → EtrConfigValue
config_of (Up e) = e.config
config_of (Down config database) = config

abbrev pub database_of : RouterCoreState → List MapRecordValue
database_of (Up e) = e.database
database_of (Down config database) = database

-- a router starts as it stands, with another database where one is given
abbrev pub NodeStarts : RouterNodeState → RouterNodeState → Option (List MapRecordValue) → ℕ
    → Result (Unit {0}) StartFault → Type 0
NodeStarts old new db now answer =
    CoreAnswersStartOver (config_of old.core) (unwrap_or db (database_of old.core)) now
    old.store new.store new.core answer

-- a router stopped, its store crashed, and it started again, with another database where one is given
pub record NodeRestarts (old new : RouterNodeState) (pick : ℕ) (db : Option (List MapRecordValue)) (now : ℕ)
    (answer : Result (Unit {0}) StartFault) : Type 0 where
  pub me : new.me ≡ old.me
  pub servers : new.servers ≡ old.servers
  pub used : new.used ≡ old.used
  pub crashed : StoreState
  pub crashes : StoreRestarts old.store crashed pick
  pub starts : NodeStarts (record old { store = crashed }) new db now answer

-- a router stopped, its store was lost, and it started again under another key, with another database where one is given
pub record NodeLoses (old new : RouterNodeState) (key_id : ℕ) (secret : List ℕ) (db : Option (List MapRecordValue))
    (now : ℕ) (answer : Result (Unit {0}) StartFault) : Type 0 where
  pub me : new.me ≡ old.me
  pub servers : new.servers ≡ old.servers
  pub used : UsesKeyAfterLoss old.used new.used key_id
  pub lost : StoreState
  pub loses : StoreLoses old.store lost
  pub starts : CoreAnswersStartOver (with_key (config_of old.core) key_id secret)
      (unwrap_or db (database_of old.core)) now lost new.store new.core answer

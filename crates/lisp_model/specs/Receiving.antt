-- Legal steps of a server at which a message arrives (RFC 9301 sections 5.6, 5.7 and 8.2).
use Rattle.std.specs.Prelude.{◌≡◌, ◌⊎◌, ℕ, ◌≤◌, ◌==◌, ◌&&◌, Bool, true, false, List, [], ◌∷◌, length, slice_get, Option, Some, None, Result, Ok, Err, if◌then◌else◌}
use Rattle.std.specs.List.{find}
use Rattle.lisp_records.specs.declared.address.Addr.{Addr}
use Rattle.lisp_records.specs.declared.router.RouterId.{RouterId}
use Rattle.lisp_records.specs.Address.{addr_eq}
use Rattle.lisp_nonces.specs.declared.pair.Pair.{Pair}
use Rattle.lisp_nonces.specs.declared.fault.StoreFault.{StoreFault}
use Rattle.lisp_messages.specs.declared.fault.ReadFault.{ReadFault}
use Rattle.lisp_messages.specs.Message.{MessageValue, MapRegisterValue, MapNotifyValue, Registers, Notifies}
pub use Rattle.lisp_admission.specs.declared.refused.Refused.{Refused}
use Rattle.lisp_admission.specs.declared.refused.Refused.TheVariants.{Read, NotMine, BadAuth, StoreLoad, Replay, Jump, Full as FullOf, OutOfMemory, StoreSave, NoNotice}
use Rattle.lisp_admission.specs.Nonces.{IsBelow, IsFar, IsNear}
use Rattle.lisp_admission.specs.Pairs.{router_of, pair_of}
use Rattle.lisp_policy.specs.declared.full.Full.{Full}
use Rattle.lisp_lookup.specs.Growth.{LiveRows, Fits, IsFull}
use Rattle.lisp_admission.specs.Checks.{secret_under, secret_at, most_jump_at, most_routers_at, most_rows_at}
use Rattle.lisp_admission.specs.Checks.{signed_by}
use Rattle.lisp_messages.specs.Reading.{HasHead, HasRecords}
use Rattle.lisp_model.specs.Trace.{clock}
use Rattle.lisp_model.specs.Held.{last_of, held_rows}
use Rattle.lisp_model.specs.Timers.{Notice, notices}
use Rattle.lisp_model.specs.Bag.{Item, Arrival, bag, since_start}
use Rattle.lisp_model.specs.Context.{Context, its_sites, IsAtServer, values, values_after, Same, SameOthers, MaySave, Loads, LoadFails, SaveFails, IsBase}

-- the last nonce of a pair since the server's start
abbrev pub last_in : Context → Pair → Option ℕ
last_in t pair = last_of pair (since_start t.opening t.past t.node)

-- a Map-Register arrives that passes all checks up to its nonce
pub record Admits (t : Context) (a : Arrival) (m : MapRegisterValue) : Type 0 where
  pub read : a.read ≡ Ok (Registers m)
  pub secret : List ℕ
  pub checks : secret_under (its_sites t) a.from a.bytes m ≡ Ok secret

-- its nonce is above a base, which was loaded where it isn't in memory, and near it
pub record IsFresh (t : Context) (m : MapRegisterValue) : Type 0 where
  pub base : Option ℕ
  pub counts : IsBase (last_in t (pair_of m)) (values t (pair_of m)) base
  pub above : IsBelow base m.nonce
  pub near : IsNear (most_jump_at (its_sites t) m.site) base m.nonce
  pub loads : Loads t (last_in t (pair_of m))

-- the live rows that the server holds, and would hold with a Map-Register
abbrev pub rows_before : Context → LiveRows
rows_before t = held_rows (since_start t.opening t.past t.node) (clock t.past)

abbrev pub rows_with : Context → Arrival → MapRegisterValue → LiveRows
rows_with t a m = held_rows (record { message = m; from = a.from; moment = clock t.past } ∷ since_start t.opening t.past t.node) (clock t.past)

-- the limits of its site on what is held let it in
abbrev pub HasSpace : Context → Arrival → MapRegisterValue → Type 0
HasSpace t a m = Fits (most_routers_at (its_sites t) m.site) (most_rows_at (its_sites t) m.site) m.site (rows_before t) (rows_with t a m)

-- or not, and which
abbrev pub LacksSpace : Context → Arrival → MapRegisterValue → Full → Type 0
LacksSpace t a m full = IsFull (most_routers_at (its_sites t) m.site) (most_rows_at (its_sites t) m.site) m.site (rows_before t) (rows_with t a m) full

-- it is accepted: from now on its nonce alone is kept; a reply goes out where bit M asks for one
pub record IsAccepted (t : Context) (a : Arrival) (server : ℕ) (router : RouterId) (key nonce : ℕ) (datagram : Option ℕ)
    : Type 0 where
  pub acts : IsAtServer t server
  pub message : MapRegisterValue
  pub admits : Admits t a message
  pub who : router ≡ router_of message
  pub under : key ≡ message.key_id
  pub number : nonce ≡ message.nonce
  pub fresh : IsFresh t message
  pub space : HasSpace t a message
  pub may : MaySave t
  pub kept : values_after t (pair_of message) ≡ Some message.nonce ∷ []
  pub others : SameOthers t (pair_of message)
  pub reply : datagram ≡ (if message.want_notify then Some (length (bag t.opening t.past)) else None)

-- a notice waits for a Map-Notify-Ack with its key and nonce, from the address that it went to
abbrev pub went_to : Addr → Option Item → Bool
went_to from None = false
went_to from (Some i) = addr_eq i.to from

abbrev pub awaits : Context → Addr → MapNotifyValue → Notice → Bool
awaits t from m n =
    went_to from (slice_get (bag t.opening t.past) n.datagram) && (n.key == m.key_id) && (n.nonce == m.nonce)

abbrev pub awaiting : Context → Addr → MapNotifyValue → Option Notice
awaiting t from m = find (awaits t from m) (notices t.opening t.past t.node)

-- the tag of what arrives is that of the notice's key
abbrev pub has_tag_for : Context → Arrival → Notice → Bool
has_tag_for t a n = signed_by (secret_at (its_sites t) n.router.site n.key) a.bytes

-- a Map-Notify-Ack ends a notice
pub record IsDone (t : Context) (a : Arrival) (server : ℕ) (router : RouterId) (nonce : ℕ) : Type 0 where
  pub acts : IsAtServer t server
  pub message : MapNotifyValue
  pub read : a.read ≡ Ok (Notifies message)
  pub ack : message.ack ≡ true
  pub notice : Notice
  pub stands : awaiting t a.from message ≡ Some notice
  pub authentic : has_tag_for t a notice ≡ true
  pub who : router ≡ notice.router
  pub number : nonce ≡ notice.nonce
  pub same : Same t

-- a Map-Notify-Ack is refused: no notice waits for it, or its tag is wrong
abbrev pub RefusesAck : Context → Arrival → Option Notice → Refused → Type 0
RefusesAck t a None why = why ≡ NoNotice
RefusesAck t a (Some notice) why = (has_tag_for t a notice ≡ false) × (why ≡ BadAuth)

-- a Map-Notify is for routers
abbrev pub FailsNotify : Context → Arrival → MapNotifyValue → Bool → Refused → Type 0
FailsNotify t a m true why = RefusesAck t a (awaiting t a.from m) why
FailsNotify t a m false why = why ≡ NotMine

-- the first check that a message fails before its nonce is looked at
abbrev pub FailsCheck : Context → Arrival → Result MessageValue ReadFault → Refused → Type 0
FailsCheck t a (Err fault) why = why ≡ Read fault
FailsCheck t a (Ok (Registers m)) why = secret_under (its_sites t) a.from a.bytes m ≡ Err why
FailsCheck t a (Ok (Notifies m)) why = FailsNotify t a m m.ack why

-- the base can't be loaded
pub record NotLoaded (t : Context) (a : Arrival) (fault : StoreFault) : Type 0 where
  pub message : MapRegisterValue
  pub admits : Admits t a message
  pub unknown : last_in t (pair_of message) ≡ None
  pub fails : LoadFails t fault

-- the nonce isn't above its base
pub record Replays (t : Context) (a : Arrival) (saved : ℕ) : Type 0 where
  pub message : MapRegisterValue
  pub admits : Admits t a message
  pub counts : IsBase (last_in t (pair_of message)) (values t (pair_of message)) (Some saved)
  pub loads : Loads t (last_in t (pair_of message))
  pub stale : message.nonce ≤ saved
  pub same : Same t

-- the nonce is too far above its base
pub record Jumps (t : Context) (a : Arrival) (site saved : ℕ) : Type 0 where
  pub message : MapRegisterValue
  pub admits : Admits t a message
  pub its : site ≡ message.site
  pub counts : IsBase (last_in t (pair_of message)) (values t (pair_of message)) (Some saved)
  pub loads : Loads t (last_in t (pair_of message))
  pub far : IsFar (most_jump_at (its_sites t) message.site) saved message.nonce
  pub same : Same t

-- its site has no space for it
pub record Overflows (t : Context) (a : Arrival) (site : ℕ) (full : Full) : Type 0 where
  pub message : MapRegisterValue
  pub admits : Admits t a message
  pub its : site ≡ message.site
  pub fresh : IsFresh t message
  pub lacks : LacksSpace t a message full
  pub same : Same t

-- the nonce can't be saved
pub record NotSaved (t : Context) (a : Arrival) (fault : StoreFault) : Type 0 where
  pub message : MapRegisterValue
  pub admits : Admits t a message
  pub fresh : IsFresh t message
  pub space : HasSpace t a message
  pub fails : SaveFails t (pair_of message) message.nonce fault

-- a Map-Register that is otherwise accepted: its rows and its reply take memory
pub record IsToAccept (t : Context) (a : Arrival) : Type 0 where
  pub message : MapRegisterValue
  pub admits : Admits t a message
  pub fresh : IsFresh t message

-- the first reason that applies: the checks; the base; the nonce; memory, which may run out in reading
-- records too, and then comes first; what the site may hold; the store
abbrev pub RefusesMessage : Context → Arrival → Refused → Type 0
RefusesMessage t a (StoreLoad fault) = NotLoaded t a fault
RefusesMessage t a (Replay saved) = Replays t a saved
RefusesMessage t a (Jump site saved) = Jumps t a site saved
RefusesMessage t a (FullOf site full) = Overflows t a site full
RefusesMessage t a OutOfMemory = HasHead a.bytes × (HasRecords a.bytes ⊎ IsToAccept t a) × Same t
RefusesMessage t a (StoreSave fault) = NotSaved t a fault
RefusesMessage t a why = FailsCheck t a a.read why × Same t

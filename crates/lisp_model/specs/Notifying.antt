-- Legal steps of a server that sends a notice (RFC 9301 section 5.7).
use Rattle.std.specs.Prelude.{◌≡◌, ◌≢◌, ◌<◌, ◌≤◌, ℕ, ◌-◌, ◌^◌, true, false, List, [], length, Option, Some, None}
use Rattle.lisp_records.specs.Parts.{fits_message}
use Rattle.lisp_records.specs.Record.{MapRecordValue}
use Rattle.lisp_nonces.specs.Kept.{number}
pub use Rattle.lisp_admission.specs.declared.notice_fault.NoticeFault.{NoticeFault}
use Rattle.lisp_admission.specs.declared.notice_fault.NoticeFault.TheVariants.{NotRegistered, TooLarge, StoreLoad, NonceSpent, OutOfMemory, StoreSave, NotDue}
use Rattle.lisp_admission.specs.Pairs.{notice_pair}
use Rattle.lisp_admission.specs.Nonces.{nonce_after}
use Rattle.lisp_model.specs.Trace.{router_at, is_router, clock}
use Rattle.lisp_model.specs.Held.{Acceptance, heard_last, records_of}
use Rattle.lisp_model.specs.Timers.{last_notice, notice_to, is_due}
use Rattle.lisp_model.specs.Bag.{bag, since_start}
use Rattle.lisp_model.specs.Context.{Context, IsAtServer, values, Same, Loads, Saves, LoadFails, SaveFails, IsBase}

-- the records that are held of a router
abbrev pub notice_records : Context → ℕ → List MapRecordValue
notice_records t router =
    records_of (since_start t.opening t.past t.node) (router_at t.opening.config router).me (clock t.past)

-- there are some, and they fit one message
pub record CanNotify (t : Context) (router : ℕ) : Type 0 where
  pub some : notice_records t router ≢ []
  pub fits : fits_message (notice_records t router) ≡ true

-- the numbers that the nonce of a notice may count from
abbrev pub NoticesFrom : Context → Option ℕ → Type 0
NoticesFrom t base = IsBase (last_notice t.past t.node) (values t notice_pair) base

-- a notice goes out, under the key and to the address of the router's last Map-Register: its nonce is the
-- next one, and from now on the store has none below it
pub record IsNotice (t : Context) (server router key nonce datagram : ℕ) : Type 0 where
  pub acts : IsAtServer t server
  pub kind : is_router t.opening.config router ≡ true
  pub tells : CanNotify t router
  pub last : Acceptance
  pub heard : heard_last (router_at t.opening.config router).me (since_start t.opening t.past server) ≡ Some last
  pub under : key ≡ last.message.key_id
  pub base : Option ℕ
  pub counts : NoticesFrom t base
  pub loads : Loads t (last_notice t.past t.node)
  pub next : nonce ≡ nonce_after base
  pub bound : nonce < 2 ^ 64
  pub place : datagram ≡ length (bag t.opening t.past)
  pub saves : Saves t notice_pair nonce nonce

-- it goes out again when it is due
pub record IsResent (t : Context) (server router datagram : ℕ) : Type 0 where
  pub acts : IsAtServer t server
  pub kind : is_router t.opening.config router ≡ true
  pub due : is_due (notice_to t.opening t.past server (router_at t.opening.config router).me) (clock t.past) ≡ true
  pub place : datagram ≡ length (bag t.opening t.past)
  pub same : Same t

-- nonces are left
pub record HasNonce (t : Context) (router : ℕ) (base : Option ℕ) : Type 0 where
  pub tells : CanNotify t router
  pub counts : NoticesFrom t base
  pub loads : Loads t (last_notice t.past t.node)
  pub left : number base < 2 ^ 64 - 1

-- the first reason that applies: nothing is held of the router; too much; the last nonce can't be loaded;
-- the nonces are spent; memory; the store
abbrev pub RefusesNotice : Context → ℕ → NoticeFault → Type 0
RefusesNotice t router NotRegistered = (notice_records t router ≡ []) × Same t
RefusesNotice t router TooLarge =
    (notice_records t router ≢ []) × (fits_message (notice_records t router) ≡ false) × Same t
RefusesNotice t router (StoreLoad fault) = CanNotify t router × (last_notice t.past t.node ≡ None) × LoadFails t fault
RefusesNotice t router NonceSpent =
    CanNotify t router × (base : Option ℕ) × NoticesFrom t base × Loads t (last_notice t.past t.node)
    × (2 ^ 64 - 1 ≤ number base) × Same t
RefusesNotice t router OutOfMemory = (base : Option ℕ) × HasNonce t router base × Same t
RefusesNotice t router (StoreSave fault) =
    (base : Option ℕ) × HasNonce t router base × SaveFails t notice_pair (nonce_after base) fault
RefusesNotice t router NotDue = ⊥

abbrev pub RefusesToResend : Context → ℕ → NoticeFault → Type 0
RefusesToResend t router NotDue =
    (is_due (notice_to t.opening t.past t.node (router_at t.opening.config router).me) (clock t.past) ≡ false) × Same t
RefusesToResend t router OutOfMemory =
    (is_due (notice_to t.opening t.past t.node (router_at t.opening.config router).me) (clock t.past) ≡ true) × Same t
RefusesToResend t router _ = ⊥

-- Legal steps of a router that goes over to another key, or whose store is lost (RFC 9301 section 8.2).
use Rattle.std.specs.Prelude.{◌≡◌, ◌≢◌, ℕ, true, List, Option}
use Rattle.lisp_records.specs.Record.{MapRecordValue}
use Rattle.lisp_nonces.specs.Kept.{KeepsSome}
pub use Rattle.lisp_etr.specs.declared.rotate_fault.RotateFault.{RotateFault}
use Rattle.lisp_etr.specs.declared.rotate_fault.RotateFault.TheVariants.{SameKey, Store}
use Rattle.lisp_etr.specs.declared.start_fault.StartFault.{StartFault}
use Rattle.lisp_model.specs.Trace.{is_router, key}
use Rattle.lisp_model.specs.Context.{Context, IsAtRouter, Same, MayLoad, LoadFails}
use Rattle.lisp_model.specs.Keys.{MayRotate, MayStartUnder}
use Rattle.lisp_model.specs.Restarting.{Fits, StartCause}

-- a router goes over to another key; what its store keeps for it was loaded
pub record IsRotated (t : Context) (router key_id named under : ℕ) : Type 0 where
  pub acts : IsAtRouter t router true
  pub names : named ≡ router
  pub to : under ≡ key_id
  pub may : MayRotate t.opening t.past router key_id
  pub other : key_id ≢ key t.opening t.past router
  pub loads : MayLoad t
  pub same : Same t

-- the first reason that applies: it is the router's key already; the last nonce under it can't be loaded
abbrev pub RefusesToRotate : Context → ℕ → ℕ → RotateFault → Type 0
RefusesToRotate t router key_id SameKey = (key_id ≡ key t.opening t.past router) × Same t
RefusesToRotate t router key_id (Store fault) = (key_id ≢ key t.opening t.past router) × LoadFails t fault

-- a router whose store is lost is to start under another key: of each pair any values may be kept then
pub record IsLost (t : Context) (router key_id : ℕ) (db : Option (List MapRecordValue)) : Type 0 where
  pub acts : t.node ≡ router
  pub kind : is_router t.opening.config router ≡ true
  pub may : MayStartUnder t.opening t.past router key_id
  pub fits : Fits db
  pub some : KeepsSome t.after.kept

-- it starts
pub record IsEmptied (t : Context) (router key_id : ℕ) (db : Option (List MapRecordValue)) (named under : ℕ) : Type 0 where
  pub lost : IsLost t router key_id db
  pub names : named ≡ router
  pub to : under ≡ key_id

-- it doesn't
pub record IsNotStartedUnder (t : Context) (router key_id : ℕ) (db : Option (List MapRecordValue)) (named : ℕ)
    (fault : StartFault) : Type 0 where
  pub lost : IsLost t router key_id db
  pub names : named ≡ router
  pub cause : StartCause t fault

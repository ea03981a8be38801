-- Legal steps of a node that stops and starts again.
use Rattle.std.specs.Prelude.{◌≡◌, ◌⊎◌, ℕ, true, List, Option, Some, None, Ok}
use Rattle.lisp_records.specs.Database.{database_of}
use Rattle.lisp_records.specs.Record.{MapRecordValue}
pub use Rattle.lisp_etr.specs.declared.start_fault.StartFault.{StartFault}
use Rattle.lisp_etr.specs.declared.start_fault.StartFault.TheVariants.{Store, OutOfMemory}
use Rattle.lisp_model.specs.Trace.{is_server, is_router}
use Rattle.lisp_model.specs.Context.{Context, HasCause, Restarts, Picks}

-- what a router is given is a database
abbrev pub Fits : Option (List MapRecordValue) → Type 0
Fits None = Unit {0}
Fits (Some db) = database_of db ≡ Ok db

-- a node starts again: a server without a database, or a router
pub record IsRestarted (t : Context) (node pick : ℕ) (db : Option (List MapRecordValue)) (named : ℕ) : Type 0 where
  pub names : named ≡ node
  pub acts : t.node ≡ node
  pub kind : ((is_server t.opening.config node ≡ true) × (db ≡ None)) ⊎ (is_router t.opening.config node ≡ true)
  pub fits : Fits db
  pub narrows : Restarts t
  pub picks : Picks t pick

-- a router doesn't start
abbrev pub StartCause : Context → StartFault → Type 0
StartCause t (Store fault) = HasCause t fault
StartCause t OutOfMemory = Unit {0}

pub record IsNotStarted (t : Context) (node pick : ℕ) (db : Option (List MapRecordValue)) (named : ℕ)
    (fault : StartFault) : Type 0 where
  pub names : named ≡ node
  pub acts : t.node ≡ node
  pub kind : is_router t.opening.config node ≡ true
  pub fits : Fits db
  pub narrows : Restarts t
  pub picks : Picks t pick
  pub cause : StartCause t fault

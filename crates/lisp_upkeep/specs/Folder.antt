-- The database of a node's folder, opened.
use Rattle.std.specs.Prelude.{ℕ, Option}
use Rattle.lisp_nonces.specs.declared.fault.StoreFault.{StoreFault}
use Rattle.lisp_nonces.specs.declared.fault.StoreFault.TheVariants.{OutOfMemory}
use Rattle.lisp_store.specs.declared.writer.Change.{Change}
use Rattle.lisp_store.specs.declared.writer.Writer.{Writer}
use Rattle.lisp_database_store.specs.Meaning.{Meaning}
use Rattle.lisp_database_store.specs.Signing.{Signs}
use Rattle.lisp_database_store.specs.Table.{IsOpen}
use Rattle.lisp_database_store.specs.TakeOver.{TakesOver}
use Rattle.lisp_database_store.specs.declared.database.Database.{Database}

-- it was opened, took over the nonces of files, and this start's writer is kept, with what changed since the last one
pub record OpensSigned {T : Type 0} (means : Meaning T) (left : Option T) (change : Change) : Type 0 where
  pub opened : Database T
  pub tables : IsOpen opened.table means.has_tables
  pub count : ℕ
  pub kept : Database T
  pub takes : TakesOver means opened kept count
  pub writer : Writer
  pub signs : Signs means kept.table left writer change

-- the number of the fault that ends a node whose database can't be used
abbrev pub database_fault : StoreFault → ℕ
database_fault OutOfMemory = 97
database_fault _ = 93

-- The statements on who wrote a database last, and what a load and a save of it are by the meaning of SQL.
use Rattle.std.specs.Prelude.{◌≡◌, ◌≢◌, ℕ, List, [], ◌∷◌, codes, string_bytes, Option, Some, None, Ok, Err}
use Rattle.sqlite_trees.specs.declared.store.Store.{Ghosts}
use Rattle.sqlite.specs.declared.types.Value.TheVariants.{Text}
use Rattle.sqlite.specs.Order.{Row, column}
use Rattle.sqlite.specs.declared.error.Error.TheVariants.{QueryReturnedNoRows}
use Rattle.sqlite.specs.State.{State, Executes, QueriesRow}
use Rattle.sqlite.specs.Held.{Held, state}
use Rattle.lisp_store.specs.declared.writer.Writer.{Writer}

-- finds who wrote last
abbrev pub load_writer_text : List ℕ
load_writer_text = codes "SELECT machine_id, boot_id FROM writer"

-- puts another in the place of who wrote last
abbrev pub change_writer_text : List ℕ
change_writer_text = codes "UPDATE writer SET machine_id = ?1, boot_id = ?2"

-- puts the first writer in
abbrev pub first_writer_text : List ℕ
first_writer_text = codes "INSERT INTO writer (machine_id, boot_id) VALUES (?1, ?2)"

-- the machine's id, and that of its start
abbrev pub row_of_writer : Writer → Row
row_of_writer writer = Text (string_bytes writer.machine_id) ∷ Text (string_bytes writer.boot_id) ∷ []

-- the first two columns of a row are these ids
pub record HasIds (row : Row) (writer : Writer) : Type 0 where
  pub machine : column row 0 ≡ Text (string_bytes writer.machine_id)
  pub boot : column row 1 ≡ Text (string_bytes writer.boot_id)

-- the load of who wrote last is that query: its first row has the two ids, or it has no row
abbrev pub LoadsWriter : State → State → Option Writer → Type 0
LoadsWriter old new (Some writer) = (row : Row) × HasIds row writer × QueriesRow load_writer_text [] old new (Ok row)
LoadsWriter old new None = QueriesRow load_writer_text [] old new (Err QueryReturnedNoRows)

-- the save of who wrote last is a change of the rows that are there, and where there is none the first row
pub record SavesWriter {S : Type 0} (store : Ghosts S) (old new : Held S) (writer : Writer) : Type 0 where
  pub changed : ℕ
  pub between : Held S
  pub changes : Executes change_writer_text (row_of_writer writer) (state store old) (state store between) (Ok changed)
  pub some : changed ≢ 0 → new ≡ between
  pub none : changed ≡ 0 → (count : ℕ) × Executes first_writer_text (row_of_writer writer) (state store between) (state store new) (Ok count)

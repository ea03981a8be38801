-- What a start leaves of who wrote a database last.
use Rattle.std.specs.Prelude.{◌≡◌, false, Option, Some, None}
use Rattle.lisp_store.specs.Writer.{IsNews, TellsChange, KeepsKnown}
use Rattle.lisp_store.specs.declared.writer.Writer.{Writer}
use Rattle.lisp_store.specs.declared.writer.Change.{Change}
use Rattle.lisp_database_store.specs.Meaning.{Meaning}
use Rattle.lisp_database_store.specs.Table.{FindsWriter, SavesWriter}

-- the writer of now, with what is known of the last one in the place of what isn't known of it
pub record IsJoined (last now joined : Writer) : Type 0 where
  pub machine : KeepsKnown last.machine_id now.machine_id joined.machine_id
  pub boot : KeepsKnown last.boot_id now.boot_id joined.boot_id

-- What follows is told in the words of the table.
module _ {T : Type 0} (means : Meaning T) where
  -- the two are kept together, where something is known of the writer of now that the last one hadn't; else nothing is asked
  pub record KeepsNews (old new : Option T) (last now : Writer) : Type 0 where
    pub news : IsNews last now → (joined : Writer) × IsJoined last now joined × SavesWriter means old new joined
    pub none : ¬ (IsNews last now) → new ≡ old

  -- what is told and kept after the last writer was found
  abbrev pub Compares : Option T → Option T → Option Writer → Writer → Change → Type 0
  Compares old new None now change = (change ≡ record { machine = false; boot = false }) × SavesWriter means old new now
  Compares old new (Some last) now change = TellsChange last now change × KeepsNews old new last now

  -- the last writer was looked for, compared with the writer of now, and this one is kept
  pub record Signs (old new : Option T) (now : Writer) (change : Change) : Type 0 where
    pub read : Option T
    pub last : Option Writer
    pub found : FindsWriter means old read last
    pub compares : Compares read new last now change

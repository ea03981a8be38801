-- What the calls of a node's database mean of SQLite's.
use Rattle.sqlite_trees.specs.declared.store.Store.{Ghosts}
use Rattle.sqlite.specs.State.{HasCleanDisk, IsUnchanged}
use Rattle.sqlite.specs.Held.{state}
use Rattle.lisp_database_store.specs.Meaning.{Meaning}
use Rattle.lisp_database.specs.Group.{BeginsGroup, CommitsGroup, IsWaiting, IsCommitted}
use Rattle.lisp_database.specs.Kept.{HasTables, IsOfNonces, Keeps, SavesNonce, ForgetsNonce, KeepsGreatest, CountsPairs}
use Rattle.lisp_database.specs.Writer.{LoadsWriter, SavesWriter}
use Rattle.lisp_database.specs.declared.sqlite_table.SqliteTable.{SqliteTable}

-- by the state of its connection, over a store that shows what these ghosts say
unfoldable pub sqlite_meaning : {S : Type 0} → Ghosts S → Meaning (SqliteTable S)
sqlite_meaning store = record {
  has_tables = λ t. HasTables (state store t.connection);
  is_of_nonces = λ t. IsOfNonces (state store t.connection).now;
  has_clean_disk = λ t. HasCleanDisk (state store t.connection);
  keeps = λ t pair nonce. Keeps (state store t.connection).now.trees pair nonce;
  is_unchanged = λ old new. IsUnchanged (state store old.connection) (state store new.connection);
  saves_nonce = λ old new pair nonce. SavesNonce (state store old.connection) (state store new.connection) pair nonce;
  forgets = λ old new pair. ForgetsNonce (state store old.connection) (state store new.connection) pair;
  keeps_greatest = λ old new pair nonce. KeepsGreatest (state store old.connection) (state store new.connection) pair nonce;
  begins_group = λ old new. BeginsGroup (state store old.connection) (state store new.connection);
  commits_group = λ old new. CommitsGroup (state store old.connection) (state store new.connection);
  counts_pairs = λ t count. CountsPairs (state store t.connection).now.trees count;
  finds_writer = λ old new writer. LoadsWriter (state store old.connection) (state store new.connection) writer;
  saves_writer = λ old new writer. SavesWriter store old.connection new.connection writer;
  is_waiting = λ t. IsWaiting (state store t.connection);
  is_committed = λ t. IsCommitted (state store t.connection);
}

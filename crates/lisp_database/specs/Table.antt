-- The statements on the table, and what a load and a save are by the meaning of SQL.
use Rattle.std.specs.Prelude.{◌≡◌, ◌⊎◌, ℕ, pos, List, [], codes, Option, Some, None, Result, Ok, Err}
use Rattle.sqlite.specs.declared.types.Value.TheVariants.{Int, Text}
use Rattle.sqlite.specs.Order.{Row, column}
use Rattle.sqlite.specs.Tree.{Trees}
use Rattle.sqlite.specs.declared.error.Error.{Error}
use Rattle.sqlite.specs.declared.error.Error.TheVariants.{QueryReturnedNoRows}
use Rattle.sqlite.specs.State.{State, Executes, CommitsBy, CommitsShowing, QueriesRow}
use Rattle.lisp_nonces.specs.declared.pair.Pair.{Pair}
use Rattle.lisp_store.specs.NonceText.{last_digits}
use Rattle.lisp_database.specs.Columns.{key_of, row_of}

-- makes the table of nonces
abbrev pub create_text : List ℕ
create_text = codes "CREATE TABLE nonces (kind TEXT NOT NULL, site_id TEXT NOT NULL, xtr_id TEXT NOT NULL, key_id INTEGER NOT NULL, nonce TEXT NOT NULL, PRIMARY KEY (xtr_id, site_id, key_id, kind)) STRICT"

-- makes the table of who wrote last
abbrev pub create_writer_text : List ℕ
create_writer_text = codes "CREATE TABLE writer (machine_id TEXT NOT NULL, boot_id TEXT NOT NULL) STRICT"

-- finds the nonce of a pair
abbrev pub load_text : List ℕ
load_text = codes "SELECT nonce FROM nonces WHERE xtr_id = ?3 AND site_id = ?2 AND key_id = ?4 AND kind = ?1"

-- finds the columns of each pair, and its nonce
abbrev pub load_all_text : List ℕ
load_all_text = codes "SELECT kind, site_id, xtr_id, key_id, nonce FROM nonces"

-- counts the pairs
abbrev pub count_text : List ℕ
count_text = codes "SELECT count(*) FROM nonces"

-- puts the row of a pair in, or in the place of the one that the pair has
abbrev pub save_text : List ℕ
save_text = codes "INSERT INTO nonces (kind, site_id, xtr_id, key_id, nonce) VALUES (?1, ?2, ?3, ?4, ?5) ON CONFLICT DO UPDATE SET kind = ?1, site_id = ?2, xtr_id = ?3, key_id = ?4, nonce = ?5"

-- takes the row of a pair out
abbrev pub forget_text : List ℕ
forget_text = codes "DELETE FROM nonces WHERE xtr_id = ?3 AND site_id = ?2 AND key_id = ?4 AND kind = ?1"

-- the save of a nonce is that statement, with the columns of the pair
abbrev pub Saves : State → State → Pair → ℕ → Result ℕ Error → Type 0
Saves old new pair nonce answer = Executes save_text (row_of pair nonce) old new answer

-- what a save may commit
abbrev pub CommitsNonce : State → Pair → ℕ → Trees → Type 0
CommitsNonce old pair nonce db = CommitsBy save_text (row_of pair nonce) old db

-- so is the forgetting of one, with the columns that name the pair
abbrev pub Forgets : State → State → Pair → Result ℕ Error → Type 0
Forgets old new pair answer = Executes forget_text (key_of pair) old new answer

-- what that may commit
abbrev pub CommitsForget : State → Pair → Trees → Type 0
CommitsForget old pair db = CommitsBy forget_text (key_of pair) old db

-- the load of a nonce is that query: its first row has the nonce's digits, or it has no row
abbrev pub Loads : State → State → Pair → Option ℕ → Type 0
Loads old new pair (Some nonce) = (row : Row) × (column row 0 ≡ Text (last_digits 20 nonce)) × QueriesRow load_text (key_of pair) old new (Ok row)
Loads old new pair None = QueriesRow load_text (key_of pair) old new (Err QueryReturnedNoRows)

-- what the query of a load may commit, which is nothing
abbrev pub CommitsLoad : State → Pair → Trees → Type 0
CommitsLoad old pair db = CommitsShowing load_text (key_of pair) old db

-- a load that failed answered an error, or a row whose nonce isn't one
abbrev pub LoadFails : State → State → Pair → Type 0
LoadFails old new pair = ((row : Row) × QueriesRow load_text (key_of pair) old new (Ok row)) ⊎ ((e : Error) × QueriesRow load_text (key_of pair) old new (Err e))

-- the count of pairs is that query: its first row has the count
abbrev pub Counts : State → State → ℕ → Type 0
Counts old new count = (row : Row) × (column row 0 ≡ Int (pos count)) × QueriesRow count_text [] old new (Ok row)

-- What a database of nonces keeps.
use Rattle.std.specs.Prelude.{◌≡◌, ◌≢◌, ◌⊎◌, ℕ, ◌-◌, ◌^◌, Bool, false, List, [], ◌∷◌, length, map, filter, min, max, Option, Some, None, IsTrue}
use Rattle.std.specs.Option.{option_to_list}
use Rattle.sqlite.specs.Order.{Row, column}
use Rattle.sqlite.specs.Tree.{Trees}
use Rattle.sqlite.specs.Effect.{Database}
use Rattle.sqlite.specs.State.{State, IsUnchanged, IsRolledBack}
use Rattle.sqlite_trees.specs.View.{IsShaped}
use Rattle.sqlite_trees.specs.declared.store.Shape.TheVariants.{Table}
use Rattle.sqlite_schema.specs.Rules.{agree}
use Rattle.sqlite_value.specs.Keys.{plain}
use Rattle.lisp_nonces.specs.declared.pair.Pair.{Pair}
use Rattle.lisp_store.specs.PairName.{IsPair}
use Rattle.lisp_database.specs.Columns.{key_of, nonce_column}
use Rattle.lisp_database.specs.Schema.{key_places, nonces_schema, no_schema}

-- the database has these two tables, and nothing else
abbrev pub HasTables : State → Type 0
HasTables s = s.now.schema ≡ nonces_schema

-- and the rows of the table of nonces are numbered by integers that rise, as those of each table are
pub record IsOfNonces (db : Database) : Type 0 where
  pub tables : db.schema ≡ nonces_schema
  pub rows : IsShaped Table (db.trees 0)

-- the row has the columns of the pair, as SQL compares them
abbrev pub is_row_of : Pair → Row → Bool
is_row_of pair row = agree plain key_places row (2 ∷ 1 ∷ 3 ∷ 0 ∷ []) (key_of pair)

abbrev pub rows_of : Trees → Pair → List Row
rows_of db pair = filter (is_row_of pair) (db 0)

-- the table has one row of the pair, with this nonce, or nothing is kept, and it has no row of it
abbrev pub Keeps : Trees → Pair → Option ℕ → Type 0
Keeps db pair nonce = map (λ row. column row 5) (rows_of db pair) ≡ map nonce_column (option_to_list nonce)

-- the nonce is kept for the pair, and what is kept for every other pair is as before
pub record IsSaved (old new : Trees) (pair : Pair) (nonce : ℕ) : Type 0 where
  pub kept : Keeps new pair (Some nonce)
  pub others : (q : Pair) → IsPair q → q ≢ pair → rows_of new q ≡ rows_of old q
  pub writer : new 2 ≡ old 2

-- after a save that was done: outside a transaction it is committed, and every crash leaves it
pub record SavesNonce (old new : State) (pair : Pair) (nonce : ℕ) : Type 0 where
  pub table : IsOfNonces new.now
  pub saved : IsSaved old.now.trees new.now.trees pair nonce
  pub mode : new.in_transaction ≡ old.in_transaction
  pub committed : old.in_transaction ≡ false → new.committed ≡ new.now
  pub durable : old.in_transaction ≡ false → (db : Trees) → new.may_leave db → db ≡ new.now.trees
  pub waits : IsTrue old.in_transaction → new.committed ≡ old.committed

-- a database that a save may commit
pub record CommitsSave (old : State) (pair : Pair) (nonce : ℕ) (db : Trees) : Type 0 where
  pub outside : old.in_transaction ≡ false
  pub rows : IsShaped Table (db 0)
  pub saved : IsSaved old.now.trees db pair nonce

-- nothing is kept for the pair, and what is kept for every other pair is as before
pub record IsForgotten (old new : Trees) (pair : Pair) : Type 0 where
  pub kept : Keeps new pair None
  pub others : (q : Pair) → IsPair q → q ≢ pair → rows_of new q ≡ rows_of old q
  pub writer : new 2 ≡ old 2

-- after a nonce was forgotten: outside a transaction that is committed, and every crash leaves it
pub record ForgetsNonce (old new : State) (pair : Pair) : Type 0 where
  pub table : IsOfNonces new.now
  pub forgotten : IsForgotten old.now.trees new.now.trees pair
  pub mode : new.in_transaction ≡ old.in_transaction
  pub committed : old.in_transaction ≡ false → new.committed ≡ new.now
  pub durable : old.in_transaction ≡ false → (db : Trees) → new.may_leave db → db ≡ new.now.trees
  pub waits : IsTrue old.in_transaction → new.committed ≡ old.committed

-- a database that forgetting a nonce may commit
pub record CommitsForgetting (old : State) (pair : Pair) (db : Trees) : Type 0 where
  pub outside : old.in_transaction ≡ false
  pub rows : IsShaped Table (db 0)
  pub forgotten : IsForgotten old.now.trees db pair

-- there are so many rows of pairs, up to the most that SQLite counts
abbrev pub CountsPairs : Trees → ℕ → Type 0
CountsPairs db count = count ≡ min (length (db 0)) (2 ^ 63 - 1)

-- what a call that failed leaves: all as before, or as the last commit left it
abbrev pub LeavesAll : State → State → Type 0
LeavesAll old new = IsUnchanged old new ⊎ IsRolledBack old new

-- the greater of what is kept and the nonce
abbrev pub greatest : Option ℕ → ℕ → ℕ
greatest None nonce = nonce
greatest (Some kept) nonce = max kept nonce

-- after the greatest of two nonces was kept for a pair
pub record KeepsGreatest (old new : State) (pair : Pair) (nonce : ℕ) : Type 0 where
  pub table : IsOfNonces new.now
  pub before : Option ℕ
  pub was : Keeps old.now.trees pair before
  pub kept : Keeps new.now.trees pair (Some (greatest before nonce))
  pub others : (q : Pair) → IsPair q → q ≢ pair → rows_of new.now.trees q ≡ rows_of old.now.trees q
  pub writer : new.now.trees 2 ≡ old.now.trees 2
  pub mode : new.in_transaction ≡ old.in_transaction

-- nothing is in the database yet
abbrev pub HasNothing : State → Type 0
HasNothing s = s.now.schema ≡ no_schema

-- both tables are there, with no row
pub record AreMade (db : Trees) : Type 0 where
  pub nonces : db 0 ≡ []
  pub writer : db 2 ≡ []
  pub nothing : (pair : Pair) → Keeps db pair None

-- after both tables were made, which is committed
pub record MakesTables (new : State) : Type 0 where
  pub table : IsOfNonces new.now
  pub made : AreMade new.now.trees
  pub committed : new.committed ≡ new.now

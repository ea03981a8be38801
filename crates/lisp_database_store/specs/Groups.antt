-- Saves that wait for one commit.
use Rattle.std.specs.Prelude.{◌≡◌, ◌⊎◌, ℕ, Option, None}
use Rattle.lisp_nonces.specs.declared.pair.Pair.{Pair}
use Rattle.lisp_database_store.specs.declared.group.Group.{Group}
use Rattle.lisp_database_store.specs.declared.group.Group.TheVariants.{Empty, Waiting, Lost}
use Rattle.lisp_database_store.specs.declared.group.Groups.{Groups}
use Rattle.lisp_database_store.specs.Meaning.{Meaning}
use Rattle.lisp_database_store.specs.Table.{IsOpen, Saves, Begins, Commits}
pub mod Asked

-- what a call that failed makes of a group: it is lost, unless no save waits
abbrev pub lost_group : Group → Group
lost_group Empty = Empty
lost_group _ = Lost

-- What follows is of a database whose saves wait, in a table T.
module _ {T : Type 0} where
  -- a group that is lost stays so
  abbrev pub StaysLost : Groups T → Groups T → Type 0
  StaysLost old new = old.group ≡ Lost → new.group ≡ Lost

  -- a call that failed loses the group; and the file is closed where no save waits, so that the next call opens it anew
  pub record LosesGroup (old new : Groups T) : Type 0 where
    pub group : new.group ≡ lost_group old.group
    pub closes : old.group ≡ Empty → new.database.table ≡ None

  -- What follows is told in the words of the table.
  module _ (means : Meaning T) where
    -- a save is part of the group: it waits in the transaction
    abbrev pub Waits : Groups T → Type 0
    Waits groups = (groups.group ≡ Waiting) × IsOpen groups.database.table means.is_waiting

    -- behind a load that failed the group is lost, or as before: then the saves that waited, if any did, wait still
    abbrev pub GoesOn : Groups T → Groups T → Type 0
    GoesOn old new = LosesGroup old new ⊎ ((new.group ≡ old.group) × (old.group ≡ Waiting → Waits new))

    -- a save kept a nonce for a pair, in the transaction that waited or in one that it began
    pub record JoinsGroup (old new : Groups T) (pair : Pair) (nonce : ℕ) : Type 0 where
      pub table : Option T
      pub waited : old.group ≡ Waiting → table ≡ old.database.table
      pub began : old.group ≡ Empty → Begins means old.database.table table
      pub saved : Saves means table new.database.table pair nonce

    -- what a commit that was done made of a group that waited: the saves are committed, and nothing waits any more
    pub record CommitsAll (old new : Groups T) : Type 0 where
      pub waited : old.group ≡ Waiting
      pub committed : Commits means old.database.table new.database.table
      pub settled : IsOpen new.database.table means.is_committed

    -- a commit that was done: there was nothing to commit, and nothing was asked; or all is committed
    abbrev pub IsDone : Groups T → Groups T → Type 0
    IsDone old new = ((old.group ≡ Empty) × (new ≡ old)) ⊎ CommitsAll old new

    -- a database did a commit. No proof may use `Asked` but that of `SharedDatabase::commit`, so that no other code can say so. No
    -- contract sees what is in a cell, and so which database
    pub SomeIsDone : Type 0
    SomeIsDone = (old new : Groups T) × IsDone old new

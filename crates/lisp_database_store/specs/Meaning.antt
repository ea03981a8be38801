-- The words in which the calls of a database of nonces are told.
use Rattle.std.specs.Prelude.{ℕ, Option}
use Rattle.lisp_nonces.specs.declared.pair.Pair.{Pair}
use Rattle.lisp_store.specs.declared.writer.Writer.{Writer}

-- what they mean of a kind of database that is open
pub record Meaning (T : Type 0) : Type 1 where
  -- it has the tables of nonces and of who wrote last, and nothing else
  pub has_tables : T → Type 0
  -- it has these, and the rows of the table of nonces are numbered as those of each table are
  pub is_of_nonces : T → Type 0
  -- whatever its disk returned so far is what it was given
  pub has_clean_disk : T → Type 0
  -- a nonce is kept for a pair, or nothing is
  pub keeps : T → Pair → Option ℕ → Type 0
  -- nothing changed
  pub is_unchanged : T → T → Type 0
  -- a nonce is kept for a pair now, and what is kept for every other pair is as before; outside a transaction each crash leaves that
  pub saves_nonce : T → T → Pair → ℕ → Type 0
  -- nothing is kept for a pair now, and what is kept for every other pair is as before; outside a transaction each crash leaves that
  pub forgets : T → T → Pair → Type 0
  -- the greater of what was kept for a pair and of a nonce is kept for it now, and what is kept for every other pair is as before
  pub keeps_greatest : T → T → Pair → ℕ → Type 0
  -- all is as before, and the saves to come wait for a commit
  pub begins_group : T → T → Type 0
  -- the saves that waited are committed, and each crash leaves them
  pub commits_group : T → T → Type 0
  -- nonces are kept for so many pairs
  pub counts_pairs : T → ℕ → Type 0
  -- a query found who wrote last, or nobody
  pub finds_writer : T → T → Option Writer → Type 0
  -- a writer was put in the place of who wrote last
  pub saves_writer : T → T → Writer → Type 0
  -- saves wait for a commit; nothing does
  pub is_waiting : T → Type 0
  pub is_committed : T → Type 0

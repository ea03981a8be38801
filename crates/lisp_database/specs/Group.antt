-- Saves that one commit keeps together.
use Rattle.std.specs.Prelude.{◌≡◌, ℕ, true, false, List, codes, IsTrue}
use Rattle.sqlite.specs.Tree.{Trees}
use Rattle.sqlite.specs.State.{State}

abbrev pub begin_text : List ℕ
begin_text = codes "BEGIN"

abbrev pub commit_text : List ℕ
commit_text = codes "COMMIT"

-- after a begin that was done: all is as before, and the saves to come wait for the commit
pub record BeginsGroup (old new : State) : Type 0 where
  pub outside : old.in_transaction ≡ false
  pub mode : IsTrue new.in_transaction
  pub now : new.now ≡ old.now
  pub committed : new.committed ≡ old.committed

-- after a commit that was done: what the saves made is committed, and every crash leaves it
pub record CommitsGroup (old new : State) : Type 0 where
  pub inside : IsTrue old.in_transaction
  pub mode : new.in_transaction ≡ false
  pub now : new.now ≡ old.now
  pub committed : new.committed ≡ old.now
  pub durable : (db : Trees) → new.may_leave db → db ≡ old.now.trees

-- saves wait for a commit
abbrev pub IsWaiting : State → Type 0
IsWaiting s = s.in_transaction ≡ true

-- nothing waits for one
abbrev pub IsCommitted : State → Type 0
IsCommitted s = IsTrue s.is_open → s.now ≡ s.committed

-- A database was asked for a commit, and did it.
use Rattle.lisp_database_store.specs.declared.group.Groups.{Groups}
use Rattle.lisp_database_store.specs.Groups.{IsDone, SomeIsDone}
use Rattle.lisp_database_store.specs.Meaning.{Meaning}

pub it_did : {T : Type 0} (means : Meaning T) (old new : Groups T) → IsDone means old new → SomeIsDone means
unfolding SomeIsDone
it_did means old new done = (old, new, done)

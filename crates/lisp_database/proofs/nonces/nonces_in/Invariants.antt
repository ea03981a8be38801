use Rattle.std.proofs.Common.{All}
use Rattle.lisp_database.specs.Columns.{IsTold}
use Rattle.lisp_database.proofs.nonces.nonces_in.Given as goal

abbrev pub invariant-loop-row : goal.invariant-loop-row
invariant-loop-row l = All (IsTold l.rows) l.nonces.items

use Rattle.std.proofs.Common.{ℕ, ◌<◌}
use Rattle.lisp_database_log.specs.Log.{GoesOn}
use Rattle.lisp_database_log.proofs.damage.going_on.Given as goal

abbrev pub invariant-loop-number : goal.invariant-loop-number
invariant-loop-number l = (i : ℕ) → i < l.number → GoesOn l.log i

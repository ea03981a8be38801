use Rattle.std.proofs.Common.{◌≡◌, ◌++◌, length}
use Rattle.lisp_check.specs.Warning.{given_of}
use Rattle.lisp_check.proofs.adding.warn_of.Given as goal

-- those that were added, and those that are left
abbrev pub invariant-loop-rest : goal.invariant-loop-rest
invariant-loop-rest g l = l.warnings.items ++ given_of l.rest ≡ l.fn.warnings.items ++ given_of l.those

abbrev pub decreases-loop-rest : goal.decreases-loop-rest
decreases-loop-rest g l = length l.rest

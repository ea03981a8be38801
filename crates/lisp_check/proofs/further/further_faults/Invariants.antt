use Rattle.std.proofs.Common.{◌≤◌, length}
use Rattle.lisp_check.proofs.further.further_faults.Given as goal

-- there are at most 20 so far
abbrev pub invariant-loop : goal.invariant-loop
invariant-loop l = length l.further.items ≤ 20

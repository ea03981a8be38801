use Rattle.std.proofs.Common.{◌≤◌}
use Rattle.lisp_picture.proofs.cells.trimmed.Given as goal

-- the end is no later than the place
abbrev pub invariant-loop-place : goal.invariant-loop-place
invariant-loop-place l = l.end ≤ l.place

use Rattle.std.proofs.Common.{◌≡◌, ◌++◌, take, drop, map}
use Rattle.lisp_budget.specs.Budget.{passed}
use Rattle.lisp_budget.proofs.rows.pass_each.Given as goal

-- the rows so far passed
abbrev pub invariant-loop-row : goal.invariant-loop-row
invariant-loop-row l = take l.row-index l.rows ++ map passed (drop l.row-index l.rows) ≡ map passed l.fn.rows

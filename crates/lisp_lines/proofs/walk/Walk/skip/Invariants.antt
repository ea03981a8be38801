use Rattle.std.proofs.Common.{List}
use Rattle.lisp_records.specs.Row.{RowValue}
use Rattle.lisp_lines.proofs.Walking.{Taken}
use Rattle.lisp_lines.proofs.walk.Walk.skip.Given as goal

-- the rows so far
abbrev pub invariant-loop-count : goal.invariant-loop-count
invariant-loop-count g l = (taken : List RowValue) × Taken l.core.rows l.fn.self l.self taken l._count

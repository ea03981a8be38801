use Rattle.lisp_statistics.proofs.Gathered.{HasCounted}
use Rattle.lisp_statistics.proofs.gathering.Gathering.count_rows.Given as goal

-- the rows so far
abbrev pub invariant-loop-count : goal.invariant-loop-count
invariant-loop-count g l = HasCounted l.core.rows l.fn.self l.self l._count

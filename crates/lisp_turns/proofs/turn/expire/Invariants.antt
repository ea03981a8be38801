use Rattle.lisp_turns.proofs.DeadRows.{HasTold, row_count}
use Rattle.lisp_turns.proofs.turn.expire.Given as goal

abbrev pub invariant-loop-router : goal.invariant-loop-router
invariant-loop-router g l = HasTold (g.N.Node.state l.fn.node) (g.N.Node.state l.node) l.now (g.O.Outside.seen l.fn.outside) (g.O.Outside.seen l.outside)

abbrev pub decreases-loop-router : goal.decreases-loop-router
decreases-loop-router g l = row_count (g.N.Node.state l.node)

use Rattle.lisp_turns.proofs.DeadRows.{HasDropped, row_count}
use Rattle.lisp_turns.proofs.turn.drop_withdrawn.Given as goal

abbrev pub invariant-loop-withdrawn : goal.invariant-loop-withdrawn
invariant-loop-withdrawn g l = HasDropped (g.N.Node.state l.fn.node) (g.N.Node.state l.node) l.now

abbrev pub decreases-loop-withdrawn : goal.decreases-loop-withdrawn
decreases-loop-withdrawn g l = row_count (g.N.Node.state l.node)

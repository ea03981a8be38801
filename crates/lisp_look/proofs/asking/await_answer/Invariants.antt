use Rattle.std.proofs.Common.{None}
use Rattle.lisp_look.specs.Asking.{Awaits}
use Rattle.lisp_look.proofs.asking.await_answer.Given as goal

-- nothing was sent, and nothing answered so far
abbrev pub invariant-loop : goal.invariant-loop
invariant-loop g l = Awaits l.look l.started (g.O.Outside.seen l.fn.outside) (g.O.Outside.seen l.outside) None

use Rattle.lisp_world.proofs.Making.{StartedTo}
use Rattle.lisp_world.proofs.new.start_all.Given as goal

-- the routers so far have started
abbrev pub invariant-loop-i : goal.invariant-loop-i
invariant-loop-i g l = StartedTo l.fn.routers l.routers l.i

use Rattle.lisp_refinement.specs.Events.{ExpiresNode}
use Rattle.lisp_world.proofs.Taking.{DoneBelow, SameFrom}
use Rattle.lisp_world.proofs.tick.expire_all.Given as goal

-- the servers so far dropped their dead rows, and the others are as they were
abbrev pub invariant-loop-server : goal.invariant-loop-server
invariant-loop-server g l = record {
  done : DoneBelow (λ old new. ExpiresNode old new l.now) l.fn.servers l.servers l.server-index;
  others : SameFrom l.fn.servers l.servers l.server-index;
}

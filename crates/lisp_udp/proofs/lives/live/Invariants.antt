use Rattle.std.proofs.Common.{IfOk}
use Rattle.lisp_database_store.specs.Keeper.{shared_store}
use Rattle.lisp_udp.proofs.LivesInOrder.{SoFar, left_of}
use Rattle.lisp_udp.proofs.lives.live.Given as goal

abbrev pub invariant-loop-life : goal.invariant-loop-life
invariant-loop-life g l = IfOk l.fn.outside (λ before. SoFar Rattle.std.proofs.Common.Global l.config l.number shared_store l.places l.answering l.turns
    l.life.node (g.O.Outside.seen before) (g.O.Outside.seen l.life.outside) l.life.ended)

abbrev pub decreases-loop-life : goal.decreases-loop-life
decreases-loop-life g l = left_of l.life.ended

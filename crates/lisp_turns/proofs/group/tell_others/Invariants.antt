use Rattle.std.proofs.Common.{reverse, take}
use Rattle.lisp_turns.specs.Group.{TellsEach}
use Rattle.lisp_turns.proofs.group.tell_others.Given as goal

abbrev pub invariant-loop-heard : goal.invariant-loop-heard
invariant-loop-heard g l = TellsEach (reverse (take l.heard-index l.heard-items)) (g.O.Outside.seen l.fn.outside) (g.O.Outside.seen l.outside)

use Rattle.lisp_lemmas.proofs.NumberedLines.{texts}
use Rattle.lisp_upkeep.proofs.Lists.{SaySoFar}
use Rattle.lisp_upkeep.proofs.list.read_list.Given as goal

-- the nonces so far are those of the lines so far
abbrev pub invariant-loop-place : goal.invariant-loop-place
invariant-loop-place g l = SaySoFar (texts l.yielded) l.nonces.items

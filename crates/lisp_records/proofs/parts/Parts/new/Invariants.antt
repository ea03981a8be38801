use Rattle.lisp_records.proofs.Filling.{IsFilling}
use Rattle.lisp_records.proofs.parts.Parts.new.Given as goal

-- the parts before the present one are found, and the present one is being filled
abbrev pub invariant-loop-i : goal.invariant-loop-i
invariant-loop-i g l = IsFilling l.records l.starts l.last l.start l.size l.i

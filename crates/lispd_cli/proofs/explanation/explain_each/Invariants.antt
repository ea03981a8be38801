use Rattle.std.proofs.Common.{ℕ, List, length}
use Rattle.std.specs.Prelude.{Option}
use Rattle.lispd_cli.specs.PrintedLine.{ExplainsEach}
use Rattle.lispd_cli.proofs.explanation.explain_each.Given as goal

-- what explains the numbers that are left explains all
abbrev pub invariant-loop-rest : goal.invariant-loop-rest
invariant-loop-rest g l = (new : Option (List ℕ)) → ExplainsEach l.rest (g.W.Write.contents l.writer) new → ExplainsEach l.numbers (g.W.Write.contents l.fn.writer) new

abbrev pub decreases-loop-rest : goal.decreases-loop-rest
decreases-loop-rest g l = length l.rest

use Rattle.lisp_lines.proofs.OutputLemmas.{Wrote}
use Rattle.lisp_lines.proofs.output.write_bytes.Given as goal

-- what went out, and what is left
abbrev pub invariant-loop : goal.invariant-loop
invariant-loop g l = Wrote (g.W.Write.contents l.fn.writer) (g.W.Write.contents l.writer) l.fn.bytes l.rest

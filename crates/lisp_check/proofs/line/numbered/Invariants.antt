use Rattle.lisp_check.specs.Header.{AreAmong}
use Rattle.lisp_check.proofs.line.numbered.Given as goal

-- what is left is among the headers
abbrev pub invariant-loop : goal.invariant-loop
invariant-loop l = AreAmong l.rest l.fn.headers

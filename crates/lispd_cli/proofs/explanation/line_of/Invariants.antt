use Rattle.std.proofs.Common.{◌≡◌, ◌++◌, length}
use Rattle.std.specs.Prelude.{string_bytes}
use Rattle.lisp_script.specs.Words.{texts}
use Rattle.lispd_cli.specs.PrintedLine.{given}
use Rattle.lispd_cli.proofs.explanation.line_of.Given as goal

-- the line, and the words that are left
abbrev pub invariant-loop-rest : goal.invariant-loop-rest
invariant-loop-rest g l = string_bytes l.line ++ given (texts l.rest) ≡ given (texts l.words)

abbrev pub decreases-loop-rest : goal.decreases-loop-rest
decreases-loop-rest g l = length l.rest

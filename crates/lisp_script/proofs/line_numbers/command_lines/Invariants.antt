use Rattle.std.proofs.Common.{◌≡◌}
use Rattle.lisp_script.specs.CommandLines.{numbers_from}
use Rattle.lisp_lemmas.proofs.NumberedLines.{texts}
use Rattle.lisp_script.proofs.line_numbers.command_lines.Given as goal

-- the numbers so far are those of the lines so far
abbrev pub invariant-loop-place : goal.invariant-loop-place
invariant-loop-place g l = l.numbers.items ≡ numbers_from 1 (texts l.yielded)

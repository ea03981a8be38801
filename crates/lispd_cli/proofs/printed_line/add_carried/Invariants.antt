use Rattle.std.proofs.Common.{◌≡◌, length, Some}
use Rattle.lisp_script.specs.Words.{texts}
use Rattle.lispd_cli.specs.PrintedLine.{both, carried_by}
use Rattle.lispd_cli.proofs.printed_line.add_carried.Given as goal

-- the numbers so far, and those of the words that are left
abbrev pub invariant-loop-rest : goal.invariant-loop-rest
invariant-loop-rest g l = both (Some l.numbers.items) (carried_by (texts l.rest)) ≡ both (Some l.fn.numbers.items) (carried_by (texts l.words))

abbrev pub decreases-loop-rest : goal.decreases-loop-rest
decreases-loop-rest g l = length l.rest

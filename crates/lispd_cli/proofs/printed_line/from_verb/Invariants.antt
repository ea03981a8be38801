use Rattle.std.proofs.Common.{◌≡◌, length}
use Rattle.lisp_script.specs.Words.{texts}
use Rattle.lispd_cli.specs.PrintedLine.{from_verb}
use Rattle.lispd_cli.proofs.printed_line.from_verb.Given as goal

-- the line is that of the words that are left
abbrev pub invariant-loop-rest : goal.invariant-loop-rest
invariant-loop-rest l = from_verb (texts l.rest) ≡ from_verb (texts l.words)

abbrev pub decreases-loop-rest : goal.decreases-loop-rest
decreases-loop-rest l = length l.rest

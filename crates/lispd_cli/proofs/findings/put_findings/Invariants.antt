use Rattle.std.proofs.Common.{ℕ, List, length}
use Rattle.std.specs.Prelude.{string_bytes}
use Rattle.lispd_cli.specs.Check.{AddedLines}
use Rattle.lispd_cli.proofs.findings.put_findings.Given as goal

-- where a line is added for each that is left, one was added for each
abbrev pub invariant-loop-rest : goal.invariant-loop-rest
invariant-loop-rest l = (new : List ℕ) → AddedLines l.path (string_bytes l.text) new (length l.rest) → AddedLines l.path (string_bytes l.fn.text) new (length l.findings)

abbrev pub decreases-loop-rest : goal.decreases-loop-rest
decreases-loop-rest l = length l.rest

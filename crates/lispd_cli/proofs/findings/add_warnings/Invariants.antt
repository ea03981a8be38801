use Rattle.std.proofs.Common.{List, length}
use Rattle.lispd_cli.specs.declared.findings.Finding.{Finding}
use Rattle.lispd_cli.specs.Check.{AddedPlaced}
use Rattle.lispd_cli.proofs.findings.add_warnings.Given as goal

-- where those that are left are added, all were added
abbrev pub invariant-loop-rest : goal.invariant-loop-rest
invariant-loop-rest l =
    (new : List Finding) → AddedPlaced l.checked.document.text l.all.items new l.rest → AddedPlaced l.checked.document.text l.fn.all.items new l.warnings

abbrev pub decreases-loop-rest : goal.decreases-loop-rest
decreases-loop-rest l = length l.rest

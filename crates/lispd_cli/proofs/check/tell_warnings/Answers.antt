use Rattle.std.proofs.Common.{ℕ, not, ap, ◌∙◌}
use Rattle.std.specs.Prelude.{◌==◌}
use Rattle.lispd_cli.proofs.check.tell_warnings.Goals as goal

pub returns : goal.returns
returns g c = (
  c.in_ok-findings.findings.items,
  record {
    findings = c.in_ok-findings.ensures;
    warned_is = ap not (c.is_empty-has_warnings.ensures ∙ ap (λ (n : ℕ). n == 0) c.in_ok-findings.findings.ok.0);
  },
)

use Rattle.std.proofs.Common.{ℕ, List, length, not, ap, ◌∙◌, subst}
use Rattle.std.specs.Prelude.{string_bytes, ◌==◌}
use Rattle.std.specs.Io.KnownBytes.{Appends}
use Rattle.lispd_cli.proofs.check.print_findings.Goals as goal

pub returns : goal.returns
returns g c = record {
  all = c.in_ok-findings.findings.items;
  has = record {
    findings = c.in_ok-findings.ensures;
    warned_is = ap not (c.is_empty.ensures ∙ ap (λ (n : ℕ). n == 0) c.in_ok-findings.findings.ok.0);
  };
  before = string_bytes c.in_ok-text.text;
  words = c.in_ok-put_findings.ensures.0;
  each = c.in_ok-put_findings.ensures.1 ∙ ap length c.deref.ensures.value;
  written = subst (λ (t : List ℕ). Appends (g.W.Write.contents c.args.writer.now) (g.W.Write.contents c.print.new.writer) t) (c.as_str.ensures.value ∙ c.in_ok-put_findings.ensures.2) c.in_ok-print.ensures;
}

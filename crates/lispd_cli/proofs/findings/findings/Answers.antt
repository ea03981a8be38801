use Rattle.std.proofs.Common.{List, ◌++◌, ap, ◌∙◌, subst}
use Rattle.lisp_check.specs.declared.warning.Warning.{Warning}
use Rattle.lispd_cli.specs.declared.findings.Finding.{Finding}
use Rattle.lispd_cli.specs.Check.{ArePlaced, of_mode}
use Rattle.lispd_cli.proofs.findings.findings.Goals as goal

pub returns : goal.returns
returns c = record {
  unknown = c.add_secrets.new.all.items;
  placed = c.in_ok-add_warnings.ensures.0;
  lines = subst (λ (ws : List Warning). ArePlaced c.args.checked.now.document.text ws c.in_ok-add_warnings.ensures.0) (c.deref.ensures.value ∙ c.in_ok-warnings.ensures.order) c.in_ok-add_warnings.ensures.1;
  all_is = c.in_ok-add_mode.ensures ∙ ap (λ (l : List Finding). l ++ of_mode c.args.checked.now.source.is_open_to_others) c.in_ok-add_warnings.ensures.2;
}

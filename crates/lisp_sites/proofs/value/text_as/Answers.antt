use Rattle.std.proofs.Common.{sym}
use Rattle.std.proofs.lemmas.Result.{err_from_is_err_and}
use Rattle.toml.specs.View.{view}
use Rattle.lisp_sites.proofs.Fields.{no_text}
use Rattle.lisp_sites.proofs.value.text_as.Goals as goal

pub returns-in_err-text-clause-value : goal.returns-in_err-text-clause-value
returns-in_err-text-clause-value g c =
    let p = err_from_is_err_and c.from_residual.result c.from_residual.ensures.1 in
    rw (p.1, p.2) (sym (no_text c.args.name c.args.key.now g.T.FromText.form c.in_err-text.field-0.0 (view c.args.entry.now) c.in_err-text.ensures.reads))

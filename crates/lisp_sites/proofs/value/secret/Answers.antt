use Rattle.std.proofs.lemmas.Result.{err_from_is_err_and}
use Rattle.toml.specs.View.{view}
use Rattle.lisp_texts.specs.Form.{secret_text_of}
use Rattle.lisp_sites.proofs.Fields.{no_text, fails_met}
use Rattle.lisp_sites.proofs.value.secret.Goals as goal

pub returns-in_err-text-clause-gives : goal.returns-in_err-text-clause-gives
returns-in_err-text-clause-gives g c =
    let p = err_from_is_err_and c.from_residual.result c.from_residual.ensures.1 in
    rw (p.1, p.2) (fails_met c.in_err-text.field-0.0 _ (no_text c.args.name c.args.key.now secret_text_of c.in_err-text.field-0.0 (view c.args.entry.now) c.in_err-text.ensures.reads))

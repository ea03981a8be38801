use Rattle.std.proofs.lemmas.Result.{err_from_is_err_and}
use Rattle.toml.specs.View.{view}
use Rattle.lisp_sites.specs.Form.{name_of}
use Rattle.lisp_sites.proofs.Fields.{no_text}
use Rattle.lisp_sites.proofs.value.name.Goals as goal

pub returns-in_err-text-clause-reads : goal.returns-in_err-text-clause-reads
returns-in_err-text-clause-reads c =
    let p = err_from_is_err_and c.from_residual.result c.from_residual.ensures.1 in
    rw (p.1, p.2) (no_text c.args.name c.args.key.now name_of c.in_err-text.field-0.0 (view c.args.entry.now) c.in_err-text.ensures.reads)

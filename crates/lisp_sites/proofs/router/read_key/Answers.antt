use Rattle.std.proofs.Common.{sym, codes}
use Rattle.std.proofs.lemmas.Result.{err_from_is_err_and}
use Rattle.toml.specs.View.{view}
use Rattle.lisp_texts.specs.Reading.{if_so}
use Rattle.lisp_policy.specs.Site.{has_key}
use Rattle.lisp_sites.specs.declared.field.Field.TheVariants as fields
use Rattle.lisp_sites.specs.Form.{byte_as}
use Rattle.lisp_sites.proofs.Fields.{looked_up-Err}
use Rattle.lisp_sites.proofs.router.read_key.Goals as goal

pub returns-in_err-id-clause-value : goal.returns-in_err-id-clause-value
returns-in_err-id-clause-value g c =
    let p = err_from_is_err_and c.from_residual.result c.from_residual.ensures.1 in
    rw (p.1, p.2) (sym (looked_up-Err fields.RouterKey (codes "key") byte_as (λ id. if_so (has_key c.args.site.now.keys id) id) c.in_err-id.field-0.0 (view c.args.entry.now) c.in_err-id.ensures.value))

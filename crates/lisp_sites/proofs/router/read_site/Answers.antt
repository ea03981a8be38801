use Rattle.std.proofs.Common.{codes}
use Rattle.std.proofs.lemmas.Result.{err_from_is_err_and}
use Rattle.toml.specs.View.{view}
use Rattle.lisp_texts.specs.Form.{site_id_of}
use Rattle.lisp_policy.specs.Site.{site_of}
use Rattle.lisp_sites.specs.declared.field.Field.TheVariants as fields
use Rattle.lisp_sites.specs.declared.fault.ConfigFault.TheVariants.{BadValue}
use Rattle.lisp_sites.specs.Form.{text_as}
use Rattle.lisp_sites.proofs.Fields.{looked_up-Err, looked_up-Ok, reads_found}
use Rattle.lisp_sites.proofs.router.read_site.Goals as goal

pub returns-in_err-id-clause-reads : goal.returns-in_err-id-clause-reads
returns-in_err-id-clause-reads g c =
    let p = err_from_is_err_and c.from_residual.result c.from_residual.ensures.1 in
    rw (p.1, p.2) (looked_up-Err fields.RouterSite (codes "site") (text_as site_id_of) (site_of c.args.sites.now) c.in_err-id.field-0.0 (view c.args.entry.now) c.in_err-id.ensures.value)

pub returns-clause-reads : goal.returns-clause-reads
returns-clause-reads g c =
    rw (c.ok_or.ensures.value, looked_up-Ok fields.RouterSite (codes "site") (text_as site_id_of) (site_of c.args.sites.now) c.in_ok-id.id (view c.args.entry.now) c.in_ok-id.ensures.value)
    (reads_found (λ s. s.now) c.site.result (site_of c.args.sites.now c.in_ok-id.id) (BadValue fields.RouterSite) c.site.ensures)

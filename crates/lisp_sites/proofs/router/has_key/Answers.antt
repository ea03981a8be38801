use Rattle.std.proofs.Common.{sym, ap, ◌∙◌}
use Rattle.std.specs.Prelude.{is_some}
use Rattle.lisp_policy.specs.Site.{key_of}
use Rattle.lisp_sites.proofs.Found.{is_some-map, is_some-find}
use Rattle.lisp_sites.proofs.router.has_key.Goals as goal

pub returns : goal.returns
returns g c =
    c.is_some.ensures ∙ is_some-map (λ k. k.now) c.key.result ∙ ap is_some c.key.ensures
    ∙ sym (is_some-map (λ k. k.secret) (key_of c.args.site.now.keys c.args.id)) ∙ is_some-find _ c.args.site.now.keys

use Rattle.std.proofs.Common.{ap, ◌∙◌}
use Rattle.std.specs.Prelude.{is_some}
use Rattle.lisp_sites.proofs.Found.{is_some-map, is_some-find}
use Rattle.lisp_sites.proofs.site_entries.has_site.Goals as goal

pub returns : goal.returns
returns g c = c.is_some.ensures ∙ is_some-map (λ s. s.now) c.site.result ∙ ap is_some c.site.ensures ∙ is_some-find _ c.args.sites.now

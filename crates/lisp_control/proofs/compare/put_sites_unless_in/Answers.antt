use Rattle.std.proofs.Common.{◌++◌, List, ap, ◌∙◌}
use Rattle.std.specs.List.{flat_map}
use Rattle.std.specs.String.{string_bytes}
use Rattle.std.proofs.lemmas.List.{take_all}
use Rattle.lisp_policy.specs.Site.{SiteValue}
use Rattle.lisp_lines.proofs.Appends.{one_more}
use Rattle.lisp_control.specs.Gathering.{site_unless_in}
use Rattle.lisp_control.proofs.compare.put_sites_unless_in.Goals as goal

pub loop-site-preserved : goal.loop-site-preserved
loop-site-preserved c =
    one_more (site_unless_in c.args.word.now c.args.others.now) (string_bytes c.args.text.now) c.args.sites.now c.loop-site.site-index c.site-item.result _ _
    c.loop-site-test.true c.site-item.is c.loop-site.invariant c.in_ok-put_site_unless_in.ensures.text

pub returns-clause-text : goal.returns-clause-text
returns-clause-text c =
    c.loop-site.invariant ∙ ap (λ (sites : List SiteValue). string_bytes c.args.text.now ++ flat_map (site_unless_in c.args.word.now c.args.others.now) sites) (take_all c.loop-site.site-index c.args.sites.now c.loop-site-test.false)

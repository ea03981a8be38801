use Rattle.std.specs.String.{string_bytes}
use Rattle.lisp_statistics.specs.SiteCounts.{site_text}
use Rattle.lisp_statistics.proofs.Counting.{one_more_here}
use Rattle.lisp_statistics.proofs.site_counts.put_sites.Goals as goal

pub loop-site-preserved : goal.loop-site-preserved
loop-site-preserved g c =
    one_more_here (site_text c.args.shape c.args.node.now c.args.counts.now.entries) (string_bytes c.args.text.now) c.args.sites.now c.loop-site.site-index c.site-item.result _ _
    c.loop-site-test.true c.site-item.is c.loop-site.invariant c.in_ok-put_site.ensures.text

use Rattle.std.proofs.Common.{Bool, subst}
use Rattle.std.specs.List.{All}
use Rattle.lisp_lookup.specs.Hole.{IsWidest}
use Rattle.lisp_lookup.proofs.SitesLaws.{by_site, widest_next, widest_of_all}
use Rattle.lisp_lookup.proofs.sites.widest_by_sites.Goals as goal

pub loop-site-preserved : goal.loop-site-preserved
loop-site-preserved g c = widest_next (by_site c.args.addr.now c.configured-configured.result) c.as_slice-site-items.result.now c.args.addr.now c.loop-site.site-index c.loop-site.widest c.widest_in_site.result c.greater-widest.result c.site-item.result c.loop-site-test.true c.site-item.is c.greater-widest.ensures c.loop-site.invariant c.widest_in_site.ensures.within c.widest_in_site.ensures.widest

pub returns-clause-widest : goal.returns-clause-widest
returns-clause-widest g c = subst (λ (b : Bool). IsWidest (λ eid. All (λ x. by_site c.args.addr.now b x eid) c.args.sites.now) c.args.addr.now c.loop-site.widest) c.configured-configured.ensures (widest_of_all (by_site c.args.addr.now c.configured-configured.result) c.args.sites.now c.as_slice-site-items.result.now c.args.addr.now c.loop-site.site-index c.loop-site.widest c.as_slice-site-items.ensures c.loop-site.auto.site-index-end c.loop-site-test.false c.loop-site.invariant)

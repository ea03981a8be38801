use Rattle.lisp_lookup.proofs.SitesLaws.{by_prefix, widest_next, widest_of_all}
use Rattle.lisp_lookup.proofs.sites.widest_in_site.Goals as goal

pub loop-entry-preserved : goal.loop-entry-preserved
loop-entry-preserved g c = widest_next (by_prefix c.args.addr.now c.args.configured) c.prefixes-entry-items.result.now c.args.addr.now c.loop-entry.entry-index c.loop-entry.widest c.widest_beside.result c.greater-widest.result c.entry-item.result c.loop-entry-test.true c.entry-item.is c.greater-widest.ensures c.loop-entry.invariant c.widest_beside.ensures.within c.widest_beside.ensures.widest

pub returns-clause-widest : goal.returns-clause-widest
returns-clause-widest g c = widest_of_all (by_prefix c.args.addr.now c.args.configured) c.args.site.now.prefixes c.prefixes-entry-items.result.now c.args.addr.now c.loop-entry.entry-index c.loop-entry.widest c.prefixes-entry-items.ensures c.loop-entry.auto.entry-index-end c.loop-entry-test.false c.loop-entry.invariant

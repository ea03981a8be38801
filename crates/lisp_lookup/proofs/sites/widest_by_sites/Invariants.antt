use Rattle.lisp_lookup.proofs.SitesLaws.{IsWidestUpTo, by_site}
use Rattle.lisp_lookup.proofs.sites.widest_by_sites.Given as goal

abbrev pub invariant-loop-site : goal.invariant-loop-site
invariant-loop-site g l = IsWidestUpTo (by_site l.addr l.configured) l.site-items l.addr l.site-index l.widest

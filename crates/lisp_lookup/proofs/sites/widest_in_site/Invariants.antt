use Rattle.lisp_lookup.proofs.SitesLaws.{IsWidestUpTo, by_prefix}
use Rattle.lisp_lookup.proofs.sites.widest_in_site.Given as goal

abbrev pub invariant-loop-entry : goal.invariant-loop-entry
invariant-loop-entry g l = IsWidestUpTo (by_prefix l.addr l.configured) l.entry-items l.addr l.entry-index l.widest

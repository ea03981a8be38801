use Rattle.std.proofs.Common.{sym, ◌∙◌}
use Rattle.lisp_lookup.proofs.SitesLaws.{without}
use Rattle.lisp_lookup.proofs.sites.widest_without.Goals as goal

pub returns-else-covers-clause-widest : goal.returns-else-covers-clause-widest
returns-else-covers-clause-widest c = without c.args.addr.now c.args.other.now c.loop-length.length c.loop-length.invariant.was (sym c.covers.ensures ∙ c.if-covers.false)

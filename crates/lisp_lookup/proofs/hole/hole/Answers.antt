use Rattle.std.proofs.Common.{sym}
use Rattle.lisp_lookup.proofs.SitesLaws.{hole_is, hole_of, none_of}
use Rattle.lisp_lookup.proofs.hole.hole.Goals as goal

pub returns : goal.returns
returns g c =
    let none = none_of (λ row. row.now) c.args.rows.now c.args.addr.now c.args.now c.best.result c.best.ensures (sym c.if-is_some.ensures) in
    let its = c.widest_empty-length.ensures in
    let hole = hole_is c.args.rows.now c.args.sites.now c.args.addr.now c.args.now c.widest_by_sites-least.result c.widest_empty-length.result none c.widest_by_sites-least.ensures.widest its.least its.within its.empty its.widest in
    hole_of c.args.rows.now c.args.sites.now c.args.addr.now c.args.now c.widest_empty-length.result its.within hole c.new.result c.new.ensures.valid c.new.ensures.value

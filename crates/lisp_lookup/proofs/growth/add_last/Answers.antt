use Rattle.std.proofs.Common.{true, inl, sym, ap, ◌∙◌, subst}
use Rattle.std.specs.BTreeSet.{Updates}
use Rattle.lisp_records.specs.{Router.router_cmp, Row.RowValue, declared.router.RouterId.RouterId}
use Rattle.lisp_lookup.proofs.GrowthLaws.{add_last_next}
use Rattle.lisp_lookup.proofs.growth.add_last.Goals as goal

pub loop-row-preserved-in_ok-try_insert : goal.loop-row-preserved-in_ok-try_insert
loop-row-preserved-in_ok-try_insert g c = λ router.
    add_last_next c.args.site c.args.now c.loop-row.rest.now c.in-Some.later.now c.in-Some.row.now c.loop-row.routers c.try_insert.new.self c.in-Some.ensures.cases.0
    (inl (sym c.stays_live.ensures ∙ c.if-stays_live.true, subst (λ (r : RouterId). Updates router_cmp c.loop-row.routers c.try_insert.new.self r true) (ap (λ (h : RowValue). h.router) c.row.view_is) c.in_ok-try_insert.ensures.updates)) router
    ∙ c.loop-row.invariant router

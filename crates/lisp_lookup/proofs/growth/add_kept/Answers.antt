use Rattle.std.proofs.Common.{true, inl, inr, sym, ap, ◌∙◌, subst}
use Rattle.std.specs.BTreeSet.{BTreeSet, Updates}
use Rattle.lisp_records.specs.{Router.router_cmp, Row.RowValue, declared.router.RouterId.RouterId}
use Rattle.lisp_lookup.proofs.GrowthLaws.{add_kept_next}
use Rattle.lisp_lookup.proofs.growth.add_kept.Goals.{then-stays_live+in_ok-try_insert, else-stays_live}
use Rattle.lisp_lookup.proofs.growth.add_kept.Goals as goal

pub loop-row-preserved : goal.loop-row-preserved
loop-row-preserved g c = add_kept_next c.args.rows.now c.args.given.now c.loop-row.row-index c.args.site c.args.now c.row-item.result c.args.routers.now c.loop-row.routers c.if-stays_live.routers c.loop-row-test.true c.row-item.is c.loop-row.invariant (elim c.if-stays_live.branch [
  | then-stays_live+in_ok-try_insert w ↦ inl (sym c.stays_live.ensures ∙ w.if-stays_live.true, subst (λ (new : BTreeSet RouterId). Updates router_cmp c.loop-row.routers new c.row-item.result.router true) (sym w.routers-is) (subst (λ (router : RouterId). Updates router_cmp c.loop-row.routers w.try_insert.new.self router true) (ap (λ (h : RowValue). h.router) c.row.view_is) w.in_ok-try_insert.ensures.updates))
  | else-stays_live w ↦ inr (sym c.stays_live.ensures ∙ w.if-stays_live.false, ap (λ (s : BTreeSet RouterId). s.keys) w.routers-is)
])

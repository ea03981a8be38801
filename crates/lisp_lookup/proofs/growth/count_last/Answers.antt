use Rattle.std.proofs.Common.{inr, refl, sym, ◌∙◌, arith}
use Rattle.lisp_lookup.proofs.GrowthLaws.{count_last_next}
use Rattle.lisp_lookup.proofs.growth.count_last.Goals as goal

pub loop-row-preserved : goal.loop-row-preserved
loop-row-preserved g c = record {
  counts = count_last_next c.args.site c.args.now c.loop-row.rest.now c.in-Some.later.now c.in-Some.row.now c.loop-row.count c.loop-row.count c.in-Some.ensures.cases.0 (inr (sym c.stays_live.ensures ∙ c.if-stays_live.false, refl)) ∙ c.loop-row.invariant.counts;
  few = omega (arith, c.loop-row.invariant.few, c.in-Some.ensures.cases.1);
}

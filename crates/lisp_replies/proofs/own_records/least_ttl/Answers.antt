use Rattle.std.proofs.Common.{◌∷◌, min, inl, inr, take, sym, ap, ◌∙◌, subst}
use Rattle.lisp_lookup.specs.Inside.{is_inside}
use Rattle.lisp_replies.specs.Own.{IsLeastOwnTtl, own_inside}
use Rattle.lisp_replies.proofs.OwnWalkLaws.{inside_step, least_next}
use Rattle.lisp_replies.proofs.own_records.least_ttl.Goals.{then-is_inside, else-is_inside}
use Rattle.lisp_replies.proofs.own_records.least_ttl.Goals as goal

pub loop-record-preserved : goal.loop-record-preserved
loop-record-preserved g c =
    let seen = own_inside (take c.loop-record.record-index c.args.records.now) c.args.eid.now in
    let test = ap (is_inside c.args.eid.now) (sym c.eid_ref.ensures) ∙ sym c.is_inside.ensures in
    inside_step c.args.records.now c.args.eid.now c.loop-record.record-index c.record-item.result c.loop-record-test.true c.record-item.is (λ ms. IsLeastOwnTtl (c.args.longest.now ∷ ms) c.if-is_inside.least) (elim c.if-is_inside.branch [
      | then-is_inside w ↦ inl (test ∙ w.if-is_inside.true, least_next (c.args.longest.now ∷ seen) c.record-item.result c.loop-record.least c.if-is_inside.least c.loop-record.invariant (w.least-is ∙ w.min-least.ensures ∙ ap (min c.loop-record.least) w.ttl.ensures))
      | else-is_inside w ↦ inr (test ∙ w.if-is_inside.false, subst (IsLeastOwnTtl (c.args.longest.now ∷ seen)) (sym w.least-is) c.loop-record.invariant)
    ])

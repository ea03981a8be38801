use Rattle.std.proofs.Common.{◌≡◌, ◌∷◌, inl, inr, List, map, take, sym, ap, ◌∙◌}
use Rattle.std.proofs.lemmas.List.{take_all}
use Rattle.lisp_records.specs.{Address.PrefixValue, Record.MapRecordValue}
use Rattle.lisp_lookup.specs.Inside.{is_inside}
use Rattle.lisp_replies.specs.Own.{own_inside, own_record}
use Rattle.lisp_replies.proofs.OwnWalkLaws.{inside_step, records_next}
use Rattle.lisp_replies.proofs.own_records.own_records.Goals.{then-is_inside+in_ok-own_record-2+in_ok-try_push-2, else-is_inside}
use Rattle.lisp_replies.proofs.own_records.own_records.Goals as goal

pub loop-record-preserved : goal.loop-record-preserved
loop-record-preserved g c =
    let seen = own_inside (take c.loop-record.record-index c.args.records.now) c.args.eid.now in
    let test = ap (is_inside c.args.eid.now) (sym c.eid_ref-inner.ensures) ∙ sym c.is_inside.ensures in
    inside_step c.args.records.now c.args.eid.now c.loop-record.record-index c.record-item.result c.loop-record-test.true c.record-item.is (λ ms. c.if-is_inside.own.items ≡ own_record c.args.probed c.least_ttl-ttl.result c.args.eid.now c.args.longest.now ∷ map (λ m. own_record c.args.probed c.least_ttl-ttl.result m.eid m) ms) (elim c.if-is_inside.branch [
      | then-is_inside+in_ok-own_record-2+in_ok-try_push-2 w ↦ inl (test ∙ w.if-is_inside.true, records_next c.args.probed c.least_ttl-ttl.result c.args.eid.now c.args.longest.now c.record-item.result w.in_ok-own_record-2.field-0 seen c.loop-record.own.items c.if-is_inside.own.items c.loop-record.invariant (ap (λ v. v.items) w.own-is ∙ w.in_ok-try_push-2.ensures.items) (w.in_ok-own_record-2.ensures.record ∙ ap (λ (b : PrefixValue). own_record c.args.probed c.least_ttl-ttl.result b c.record-item.result) c.eid_ref-inner.ensures))
      | else-is_inside w ↦ inr (test ∙ w.if-is_inside.false, ap (λ v. v.items) w.own-is ∙ c.loop-record.invariant)
    ])

pub returns-clause-own : goal.returns-clause-own
returns-clause-own g c = record {
  ttl = c.least_ttl-ttl.result;
  least = c.least_ttl-ttl.ensures;
  is = c.loop-record.invariant ∙ ap (λ (ms : List MapRecordValue). own_record c.args.probed c.least_ttl-ttl.result c.args.eid.now c.args.longest.now ∷ map (λ m. own_record c.args.probed c.least_ttl-ttl.result m.eid m) (own_inside ms c.args.eid.now)) (take_all c.loop-record.record-index c.args.records.now c.loop-record-test.false);
}

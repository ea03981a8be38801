use Rattle.std.proofs.Common.{inl, inr, List, take, sym, ap, ◌∙◌, subst}
use Rattle.std.proofs.lemmas.List.{take_all}
use Rattle.std.proofs.lemmas.List.Elements.{All-push}
use Rattle.std.specs.List.{All}
use Rattle.std.specs.Option.{option_map}
use Rattle.lisp_records.specs.Address.{PrefixValue, IsPrefix, covers}
use Rattle.lisp_records.specs.Record.{MapRecordValue}
use Rattle.lisp_replies.specs.Own.{IsLongestForOf}
use Rattle.lisp_replies.proofs.OwnWalkLaws.{longest_next, one_more}
use Rattle.lisp_replies.proofs.own_records.longest_for.Goals.{then-covers+then-is_longer, else-covers, else-covers-via-then-covers+else-is_longer, else-covers-via-else-covers}
use Rattle.lisp_replies.proofs.own_records.longest_for.Goals as goal

pub loop-record-preserved : goal.loop-record-preserved
loop-record-preserved g c =
    let seen = take c.loop-record.record-index c.args.records.now in
    let more = one_more c.args.records.now c.loop-record.record-index c.record-item.result c.loop-record-test.true c.record-item.is in
    let over = ap (λ (b : PrefixValue). covers b c.args.asked.now) (sym c.eid_ref-in-loop-record.ensures) ∙ sym c.covers.ensures.test in
    record {
      longest = subst (λ (ms : List MapRecordValue). IsLongestForOf ms c.args.asked.now (option_map (λ m. m.now) c.if-covers.longest)) (sym more)
          (longest_next c.args.asked.now seen c.record-item.result (option_map (λ m. m.now) c.loop-record.longest) (option_map (λ m. m.now) c.if-covers.longest) c.loop-record.invariant.longest
          (elim c.if-covers.branch [
            | then-covers+then-is_longer w ↦ inl (over ∙ w.if-covers.true, sym w.is_longer.ensures ∙ w.if-is_longer.true, ap (option_map (λ m. m.now)) w.longest-is)
            | else-covers w ↦ elim w.else-covers.branch [
              | else-covers-via-then-covers+else-is_longer v ↦ inr (inr (sym v.is_longer.ensures ∙ v.if-is_longer.false), ap (option_map (λ m. m.now)) w.longest-is)
              | else-covers-via-else-covers v ↦ inr (inl (over ∙ v.if-covers.false), ap (option_map (λ m. m.now)) w.longest-is)
            ]
          ]));
      blocks = subst (λ (ms : List MapRecordValue). All (λ m. IsPrefix m.eid) ms) (sym more)
          (All-push (λ (m : MapRecordValue). IsPrefix m.eid) seen c.record-item.result c.loop-record.invariant.blocks (subst IsPrefix c.eid_ref.ensures c.addr-first.ensures.block));
    }

pub returns-clause-prefixes : goal.returns-clause-prefixes
returns-clause-prefixes g c = subst (λ (ms : List MapRecordValue). All (λ m. IsPrefix m.eid) ms) (take_all c.loop-record.record-index c.args.records.now c.loop-record-test.false) c.loop-record.invariant.blocks

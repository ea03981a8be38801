use Rattle.std.proofs.Common.{◌+◌, ◌<◌, length, Some, inl, inr, sym, ap, ◌∙◌, arith}
use Rattle.std.specs.Option.{option_map}
use Rattle.lisp_lookup.specs.Index.{row_prefix_cmp}
use Rattle.lisp_lookup.proofs.AnswerLaws.{best_next}
use Rattle.lisp_lookup.proofs.BestLaws.{Seen, best_seen, behind, seen_more, seen_last, seen_splits, same_more, other_block, within_end, past_end}
use Rattle.lisp_lookup.proofs.IndexLaws.{row_read}
use Rattle.lisp_lookup.proofs.best.best_from.Goals.{then-may_answer, else-may_answer}
use Rattle.lisp_lookup.proofs.best.best_from.Goals as goal

pub returns-then-not-is_of : goal.returns-then-not-is_of
returns-then-not-is_of g c =
    let lt : c.loop-place.place < length c.args.by_prefix.now.items = omega (arith, c.loop-place-test.true, c.args.by_prefix.now.ok.0) in
    let known = row_read row_prefix_cmp c.args.rows.now c.args.by_prefix.now.items c.loop-place.place c.index.result.now c.index-rows-index.result c.requires.index.rises lt c.index.ensures c.index-rows-index.is in
    let differs = other_block c.index-rows-index.result.mapping.eid c.args.prefix.now (sym c.is_of.ensures ∙ c.if-not-is_of.true) in
    best_seen c.args.rows.now c.args.by_prefix.now.items c.args.prefix.now c.args.first c.requires.index c.requires.first c.loop-place.place (omega (arith, lt)) c.loop-place.invariant.same
    (behind c.args.rows.now c.args.by_prefix.now.items c.args.prefix.now c.args.first c.requires.index c.requires.first c.loop-place.place c.index-rows-index.result c.loop-place.auto.place lt (known c.index-rows-index.result) differs)
    c.args.addr.now c.args.now (option_map (λ row. row.now) c.loop-place.best) c.loop-place.invariant.best

pub loop-place-preserved : goal.loop-place-preserved
loop-place-preserved g c =
    let lt : c.loop-place.place < length c.args.by_prefix.now.items = omega (arith, c.loop-place-test.true, c.args.by_prefix.now.ok.0) in
    let known = row_read row_prefix_cmp c.args.rows.now c.args.by_prefix.now.items c.loop-place.place c.index.result.now c.index-rows-index.result c.requires.index.rises lt c.index.ensures c.index-rows-index.is in
    record {
      same = same_more c.args.rows.now c.args.by_prefix.now.items c.args.prefix.now c.args.first c.loop-place.place c.index-rows-index.result known (sym c.is_of.ensures ∙ c.if-not-is_of.false) c.loop-place.invariant.same;
      best = best_next (Seen c.args.rows.now c.args.by_prefix.now.items c.args.first c.loop-place.place) (Seen c.args.rows.now c.args.by_prefix.now.items c.args.first (c.loop-place.place + 1)) c.index-rows-index.result c.args.addr.now c.args.now
          (seen_more c.args.rows.now c.args.by_prefix.now.items c.args.first c.loop-place.place)
          (seen_last c.args.rows.now c.args.by_prefix.now.items c.args.first c.loop-place.place c.index-rows-index.result c.loop-place.auto.place (known c.index-rows-index.result))
          (seen_splits c.args.rows.now c.args.by_prefix.now.items c.args.first c.loop-place.place c.index-rows-index.result known)
          (option_map (λ row. row.now) c.loop-place.best) (option_map (λ row. row.now) c.if-may_answer.best) c.loop-place.invariant.best
          (elim c.if-may_answer.branch [
            | then-may_answer w ↦ inl (sym c.may_answer.ensures ∙ w.if-may_answer.true, ap (option_map (λ row. row.now)) w.best-is ∙ ap Some w.greater.ensures)
            | else-may_answer w ↦ inr (sym c.may_answer.ensures ∙ w.if-may_answer.false, ap (option_map (λ row. row.now)) w.best-is)
          ]);
    }

pub returns : goal.returns
returns g c =
    let long = c.len-place-end.ensures ∙ c.args.by_prefix.now.ok.0 in
    let all = within_end c.args.first c.loop-place.place c.len-place-end.result (length c.args.by_prefix.now.items) long c.requires.first.within c.loop-place.auto.place-end in
    best_seen c.args.rows.now c.args.by_prefix.now.items c.args.prefix.now c.args.first c.requires.index c.requires.first c.loop-place.place all c.loop-place.invariant.same
    (λ k d low lt. past_end k c.loop-place.place c.len-place-end.result (length c.args.by_prefix.now.items) long c.loop-place-test.false low lt)
    c.args.addr.now c.args.now (option_map (λ row. row.now) c.loop-place.best) c.loop-place.invariant.best

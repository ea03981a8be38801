use Rattle.std.proofs.Common.{inl, inr, sym, ap, ◌+◌, ◌∙◌, length}
use Rattle.lisp_records.specs.{Row.RowValue, Written.written}
use Rattle.lisp_lookup.proofs.LiveLaws.{counts_next, too_large}
use Rattle.lisp_lookup.proofs.live.count_live.Goals.{then-is_live_of, else-is_live_of, then-count-gt-MAX_RECORDS-via-then-count-gt-MAX_RECORDS, then-count-gt-MAX_RECORDS-via-else-count-gt-MAX_RECORDS+then-size-gt-MAX_SIZE}
use Rattle.lisp_lookup.proofs.live.count_live.Goals as goal

pub loop-row-preserved : goal.loop-row-preserved
loop-row-preserved g c = record {
  counts = counts_next c.args.rows.now c.loop-row.row-index c.row-item.result c.args.router.now c.args.now c.loop-row.count c.loop-row.size c.loop-row-test.true c.row-item.is c.loop-row.invariant.counts c.if-is_live_of.count c.if-is_live_of.size (elim c.if-is_live_of.branch [
    | then-is_live_of w ↦ inl (sym c.is_live_of.ensures ∙ w.if-is_live_of.true, w.count-is, w.size-is ∙ ap (λ n. c.loop-row.size + n) w.written_len-size.ensures.len ∙ ap (λ (h : RowValue). c.loop-row.size + length (written h.mapping)) c.row.view_is)
    | else-is_live_of w ↦ inr (sym c.is_live_of.ensures ∙ w.if-is_live_of.false, w.count-is, w.size-is)
  ]);
  few = c.if-count-gt-MAX_RECORDS.false;
  small = c.if-size-gt-MAX_SIZE.false;
}

pub returns-then-count-gt-MAX_RECORDS-clause-too_large : goal.returns-then-count-gt-MAX_RECORDS-clause-too_large
returns-then-count-gt-MAX_RECORDS-clause-too_large g c = λ none. too_large c.args.rows.now (c.loop-row.row-index + 1) c.args.router.now c.args.now c.if-is_live_of.count c.if-is_live_of.size
    (counts_next c.args.rows.now c.loop-row.row-index c.row-item.result c.args.router.now c.args.now c.loop-row.count c.loop-row.size c.loop-row-test.true c.row-item.is c.loop-row.invariant.counts c.if-is_live_of.count c.if-is_live_of.size (elim c.if-is_live_of.branch [
      | then-is_live_of w ↦ inl (sym c.is_live_of.ensures ∙ w.if-is_live_of.true, w.count-is, w.size-is ∙ ap (λ n. c.loop-row.size + n) w.written_len-size.ensures.len ∙ ap (λ (h : RowValue). c.loop-row.size + length (written h.mapping)) c.row.view_is)
      | else-is_live_of w ↦ inr (sym c.is_live_of.ensures ∙ w.if-is_live_of.false, w.count-is, w.size-is)
    ]))
    (elim c.then-count-gt-MAX_RECORDS.branch [
      | then-count-gt-MAX_RECORDS-via-then-count-gt-MAX_RECORDS w ↦ inl w.if-count-gt-MAX_RECORDS.true
      | then-count-gt-MAX_RECORDS-via-else-count-gt-MAX_RECORDS+then-size-gt-MAX_SIZE w ↦ inr w.if-size-gt-MAX_SIZE.true
    ])

use Rattle.std.proofs.Common.{inl, inr, sym, ap, ◌∙◌, [], ◌∷◌, ◌++◌}
use Rattle.std.proofs.lemmas.List.{append-nil}
use Rattle.lisp_records.specs.Record.{MapRecordValue}
use Rattle.lisp_records.specs.Row.{RowValue}
use Rattle.lisp_lookup.proofs.LiveLaws.{copies_next, none_recorded}
use Rattle.lisp_lookup.proofs.live.copy_live.Goals.{then-is_live_of+in_ok-copy+in_ok-try_push, else-is_live_of}
use Rattle.lisp_lookup.proofs.live.copy_live.Goals as goal

pub loop-row-preserved : goal.loop-row-preserved
loop-row-preserved g c = copies_next c.args.rows.now c.loop-row.row-index c.row-item.result c.args.router.now c.args.now c.loop-row.records.items c.if-is_live_of.records.items c.loop-row-test.true c.row-item.is c.loop-row.invariant (elim c.if-is_live_of.branch [
  | then-is_live_of+in_ok-copy+in_ok-try_push w ↦ inl (sym c.is_live_of.ensures ∙ w.if-is_live_of.true, ap (λ v. v.items) w.records-is ∙ w.in_ok-try_push.ensures.items ∙ ap (λ (m : MapRecordValue). c.loop-row.records.items ++ m ∷ []) (w.in_ok-copy.ensures.equal ∙ ap (λ (h : RowValue). h.mapping) c.row.view_is))
  | else-is_live_of w ↦ inr (sym c.is_live_of.ensures ∙ w.if-is_live_of.false, ap (λ v. v.items) w.records-is ∙ sym (append-nil c.loop-row.records.items))
])

pub returns-in_err-copy-clause-none_alive : goal.returns-in_err-copy-clause-none_alive
returns-in_err-copy-clause-none_alive g c = λ none. absurd (none_recorded c.args.rows.now c.loop-row.row-index c.row-item.result c.args.router.now c.args.now c.loop-row-test.true c.row-item.is (sym c.is_live_of.ensures ∙ c.if-is_live_of.true) none)

pub returns-in_err-try_push-clause-none_alive : goal.returns-in_err-try_push-clause-none_alive
returns-in_err-try_push-clause-none_alive g c = λ none. absurd (none_recorded c.args.rows.now c.loop-row.row-index c.row-item.result c.args.router.now c.args.now c.loop-row-test.true c.row-item.is (sym c.is_live_of.ensures ∙ c.if-is_live_of.true) none)

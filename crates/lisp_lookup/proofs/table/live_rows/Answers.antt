use Rattle.std.proofs.Common.{◌++◌, length, ◌∷◌, [], inl, inr, sym, ap, ◌∙◌}
use Rattle.std.proofs.lemmas.List.{take_all}
use Rattle.std.specs.List.{filter}
use Rattle.lisp_records.specs.Row.{RowValue, is_alive}
use Rattle.lisp_lookup.proofs.LiveLaws.{rows_next, none_passes}
use Rattle.lisp_lookup.proofs.table.live_rows.Goals.{then-alive+in_ok-copy+in_ok-try_push, else-alive}
use Rattle.lisp_lookup.proofs.table.live_rows.Goals as goal

pub loop-row-preserved : goal.loop-row-preserved
loop-row-preserved g c = rows_next (λ h. is_alive h c.args.now) c.args.rows.now c.loop-row.row-index c.row-item.result c.loop-row.live.items c.if-alive.live.items c.loop-row-test.true c.row-item.is c.loop-row.invariant (elim c.if-alive.branch [
  | then-alive+in_ok-copy+in_ok-try_push w ↦ inl (sym c.alive.ensures.test ∙ w.if-alive.true, ap (λ v. v.items) w.live-is ∙ w.in_ok-try_push.ensures.items ∙ ap (λ (h : RowValue). c.loop-row.live.items ++ h ∷ []) w.in_ok-copy.ensures.equal)
  | else-alive w ↦ inr (sym c.alive.ensures.test ∙ w.if-alive.false, ap (λ v. v.items) w.live-is)
])

pub returns-in_err-copy-clause-none_alive : goal.returns-in_err-copy-clause-none_alive
returns-in_err-copy-clause-none_alive g c = λ none. absurd (none_passes (λ h. is_alive h c.args.now) c.args.rows.now c.loop-row.row-index c.row-item.result c.loop-row-test.true c.row-item.is (sym c.alive.ensures.test ∙ c.if-alive.true) (ap length none))

pub returns-in_err-try_push-clause-none_alive : goal.returns-in_err-try_push-clause-none_alive
returns-in_err-try_push-clause-none_alive g c = λ none. absurd (none_passes (λ h. is_alive h c.args.now) c.args.rows.now c.loop-row.row-index c.row-item.result c.loop-row-test.true c.row-item.is (sym c.alive.ensures.test ∙ c.if-alive.true) (ap length none))

pub returns-clause-live : goal.returns-clause-live
returns-clause-live g c = c.loop-row.invariant ∙ ap (filter (λ h. is_alive h c.args.now)) (take_all c.loop-row.row-index c.args.rows.now c.loop-row-test.false)

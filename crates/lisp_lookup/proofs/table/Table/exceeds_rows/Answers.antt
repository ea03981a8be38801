use Rattle.std.proofs.Common.{◌≡◌, ◌≤◌, ◌<◌, ◌-◌, ◌^◌, min, ℕ, Option, sym, ◌∙◌, subst, arith}
use Rattle.std.proofs.lemmas.Bool.{ltb-true, ltb-false}
use Rattle.std.specs.List.{count_by}
use Rattle.lisp_lookup.specs.Table.{OneEach, TableState}
use Rattle.lisp_lookup.specs.Growth.{RowsExceed, RowsFit, live_rows, live_rows_with}
use Rattle.lisp_lookup.specs.Setting.{is_live_in, set_rows}
use Rattle.lisp_lookup.proofs.PutLaws.{one_each}
use Rattle.lisp_lookup.proofs.GrowthLaws.{rows_exceed, rows_fit_few, rows_fit_none_new}
use Rattle.lisp_lookup.proofs.table.Table.exceeds_rows.Goals as goal

pub returns-then-adds_row-clause-exceeds : goal.returns-then-adds_row-clause-exceeds
returns-then-adds_row-clause-exceeds g c = λ many. (
    let one : OneEach c.args.self.now.rows = subst (λ (s : TableState). OneEach s.rows) c.self.view_is (one_each c.self.inside.items.items c.self.inside.by_prefix.items c.self.invariant.by_prefix) in
    let count : c.count_after.result ≡ min (count_by (is_live_in c.args.site c.args.now) (set_rows c.args.self.now.rows c.args.given.now)) (2 ^ 64 - 1) = subst (λ (s : TableState). c.count_after.result ≡ min (count_by (is_live_in c.args.site c.args.now) (set_rows s.rows c.args.given.now)) (2 ^ 64 - 1)) c.self.view_is (rw (← c.deref.ensures.value) c.count_after.ensures) in
    let above : c.in-Some.most < c.count_after.result = ltb-true c.in-Some.most c.count_after.result many in
    subst (λ (most : Option ℕ). RowsExceed most c.args.site (live_rows c.args.self.now.rows c.args.now) (live_rows_with c.args.self.now.rows c.args.given.now c.args.now)) (sym c.in-Some.is)
    (rows_exceed c.args.self.now.rows c.args.given.now c.args.site c.args.now c.in-Some.most one (sym c.adds_row.ensures ∙ c.if-adds_row.true) (omega (arith, above, count)))
    )

pub returns-then-adds_row-clause-fits : goal.returns-then-adds_row-clause-fits
returns-then-adds_row-clause-fits g c = λ few. (
    let count : c.count_after.result ≡ min (count_by (is_live_in c.args.site c.args.now) (set_rows c.args.self.now.rows c.args.given.now)) (2 ^ 64 - 1) = subst (λ (s : TableState). c.count_after.result ≡ min (count_by (is_live_in c.args.site c.args.now) (set_rows s.rows c.args.given.now)) (2 ^ 64 - 1)) c.self.view_is (rw (← c.deref.ensures.value) c.count_after.ensures) in
    let within : c.count_after.result ≤ c.in-Some.most = ltb-false c.in-Some.most c.count_after.result few in
    subst (λ (most : Option ℕ). RowsFit most c.args.site (live_rows c.args.self.now.rows c.args.now) (live_rows_with c.args.self.now.rows c.args.given.now c.args.now)) (sym c.in-Some.is)
    (rows_fit_few c.args.self.now.rows c.args.given.now c.args.site c.args.now c.in-Some.most (omega (arith, within, count)))
    )

pub returns-else-adds_row-clause-fits : goal.returns-else-adds_row-clause-fits
returns-else-adds_row-clause-fits g c = λ none. (
    let one : OneEach c.args.self.now.rows = subst (λ (s : TableState). OneEach s.rows) c.self.view_is (one_each c.self.inside.items.items c.self.inside.by_prefix.items c.self.invariant.by_prefix) in
    subst (λ (most : Option ℕ). RowsFit most c.args.site (live_rows c.args.self.now.rows c.args.now) (live_rows_with c.args.self.now.rows c.args.given.now c.args.now)) (sym c.in-Some.is)
    (rows_fit_none_new c.args.self.now.rows c.args.given.now c.args.site c.args.now c.in-Some.most one (sym c.adds_row.ensures ∙ none))
    )

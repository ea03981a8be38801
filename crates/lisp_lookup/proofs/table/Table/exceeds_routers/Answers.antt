use Rattle.std.proofs.Common.{ℕ, List, [], Option, true≢false, sym, ap, ◌∙◌, subst, arith}
use Rattle.std.proofs.lemmas.Bool.{not-false, not-true}
use Rattle.lisp_records.specs.Row.{RowValue}
use Rattle.lisp_lookup.specs.Table.{OneEach, TableState}
use Rattle.lisp_lookup.specs.Growth.{RoutersExceed, RoutersFit, live_rows, live_rows_with}
use Rattle.lisp_lookup.specs.Setting.{AreRouters, set_rows}
use Rattle.lisp_lookup.proofs.PutLaws.{one_each}
use Rattle.lisp_lookup.proofs.GrowthLaws.{routers_exceed, routers_fit_few, routers_fit_none_new, routers_fit_old}
use Rattle.lisp_lookup.proofs.table.Table.exceeds_routers.Goals as goal

pub returns-then-not-adds_row-clause-fits : goal.returns-then-not-adds_row-clause-fits
returns-then-not-adds_row-clause-fits g c = λ never. (
    let one : OneEach c.args.self.now.rows = subst (λ (s : TableState). OneEach s.rows) c.self.view_is (one_each c.self.inside.items.items c.self.inside.by_prefix.items c.self.invariant.by_prefix) in
    subst (λ (most : Option ℕ). RoutersFit most c.args.site (live_rows c.args.self.now.rows c.args.now) (live_rows_with c.args.self.now.rows c.args.given.now c.args.now)) (sym c.in-Some.is)
    (routers_fit_none_new c.args.self.now.rows c.args.given.now c.args.site c.args.now c.in-Some.most one (sym c.adds_row.ensures ∙ c.if-not-adds_row.true))
    )

pub returns-then-len-most-clause-fits : goal.returns-then-len-most-clause-fits
returns-then-len-most-clause-fits g c = λ never. (
    let are : AreRouters c.in_ok-after.after c.args.site c.args.now (set_rows c.args.self.now.rows c.args.given.now) = subst (λ (rows : List RowValue). AreRouters c.in_ok-after.after c.args.site c.args.now (set_rows rows c.args.given.now)) (c.deref.ensures.value ∙ ap (λ (s : TableState). s.rows) c.self.view_is) c.in_ok-after.ensures.routers in
    subst (λ (most : Option ℕ). RoutersFit most c.args.site (live_rows c.args.self.now.rows c.args.now) (live_rows_with c.args.self.now.rows c.args.given.now c.args.now)) (sym c.in-Some.is)
    (routers_fit_few c.args.self.now.rows c.args.given.now c.args.site c.args.now c.in-Some.most c.in_ok-after.after are (omega (arith, c.len.ensures.len, c.if-len-most.true)))
    )

pub returns-clause-exceeds : goal.returns-clause-exceeds
returns-clause-exceeds g c = λ apart. (
    let one : OneEach c.args.self.now.rows = subst (λ (s : TableState). OneEach s.rows) c.self.view_is (one_each c.self.inside.items.items c.self.inside.by_prefix.items c.self.invariant.by_prefix) in
    let are : AreRouters c.in_ok-after.after c.args.site c.args.now (set_rows c.args.self.now.rows c.args.given.now) = subst (λ (rows : List RowValue). AreRouters c.in_ok-after.after c.args.site c.args.now (set_rows rows c.args.given.now)) (c.deref.ensures.value ∙ ap (λ (s : TableState). s.rows) c.self.view_is) c.in_ok-after.ensures.routers in
    let were : AreRouters c.in_ok-before.before c.args.site c.args.now (set_rows c.args.self.now.rows []) = subst (λ (rows : List RowValue). AreRouters c.in_ok-before.before c.args.site c.args.now (set_rows rows [])) (c.deref-2.ensures.value ∙ ap (λ (s : TableState). s.rows) c.self.view_is) c.in_ok-before.ensures.routers in
    subst (λ (most : Option ℕ). RoutersExceed most c.args.site (live_rows c.args.self.now.rows c.args.now) (live_rows_with c.args.self.now.rows c.args.given.now c.args.now)) (sym c.in-Some.is)
    (routers_exceed c.args.self.now.rows c.args.given.now c.args.site c.args.now c.in-Some.most c.in_ok-after.after c.in_ok-before.before one c.len.ensures.ordered are were (omega (arith, c.len.ensures.len, c.if-len-most.false)) (λ subset. true≢false (sym (c.is_subset.ensures.1 subset) ∙ not-true c.is_subset.result apart)))
    )

pub returns-clause-fits : goal.returns-clause-fits
returns-clause-fits g c = λ within. (
    let one : OneEach c.args.self.now.rows = subst (λ (s : TableState). OneEach s.rows) c.self.view_is (one_each c.self.inside.items.items c.self.inside.by_prefix.items c.self.invariant.by_prefix) in
    let are : AreRouters c.in_ok-after.after c.args.site c.args.now (set_rows c.args.self.now.rows c.args.given.now) = subst (λ (rows : List RowValue). AreRouters c.in_ok-after.after c.args.site c.args.now (set_rows rows c.args.given.now)) (c.deref.ensures.value ∙ ap (λ (s : TableState). s.rows) c.self.view_is) c.in_ok-after.ensures.routers in
    let were : AreRouters c.in_ok-before.before c.args.site c.args.now (set_rows c.args.self.now.rows []) = subst (λ (rows : List RowValue). AreRouters c.in_ok-before.before c.args.site c.args.now (set_rows rows [])) (c.deref-2.ensures.value ∙ ap (λ (s : TableState). s.rows) c.self.view_is) c.in_ok-before.ensures.routers in
    subst (λ (most : Option ℕ). RoutersFit most c.args.site (live_rows c.args.self.now.rows c.args.now) (live_rows_with c.args.self.now.rows c.args.given.now c.args.now)) (sym c.in-Some.is)
    (routers_fit_old c.args.self.now.rows c.args.given.now c.args.site c.args.now c.in-Some.most c.in_ok-after.after c.in_ok-before.before one are were (c.is_subset.ensures.0 (not-false c.is_subset.result within)))
    )

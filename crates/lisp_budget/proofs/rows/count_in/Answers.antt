use Rattle.std.proofs.Common.{◌≡◌, Some, sym, ap, ◌∙◌, arith}
use Rattle.std.specs.List.{position}
use Rattle.lisp_budget.specs.declared.rows.Row.{Row}
use Rattle.lisp_budget.specs.Budget.{is_of}
use Rattle.lisp_budget.proofs.RowLaws.{found_nowhere, counted_behind, counted_there, spent_there}
use Rattle.lisp_budget.proofs.rows.count_in.Goals as goal

pub overflow_add-index_mut : goal.overflow_add-index_mut
overflow_add-index_mut g c =
    let at : position (is_of c.args.to) c.args.rows.now.items ≡ Some c.in-Some.place = ap (position (is_of c.args.to)) (sym c.deref.ensures.value) ∙ (sym c.place_of.ensures ∙ c.in-Some.is) in
    let same = ap (λ (r : Row). r.present) (spent_there c.args.to c.args.bytes c.args.rows.now.items c.in-Some.place c.index_mut.result.now at c.index_mut.ensures.value) in
    omega (arith, same, c.requires.fits)

pub push_reserved-requires : goal.push_reserved-requires
push_reserved-requires g c =
    c.requires.room (found_nowhere (is_of c.args.to) c.args.rows.now.items (ap (position (is_of c.args.to)) (sym c.deref.ensures.value) ∙ (sym c.place_of.ensures ∙ c.in-None.is)))

pub returns-in-Some-clause-rows : goal.returns-in-Some-clause-rows
returns-in-Some-clause-rows g c =
    counted_there c.args.to c.args.bytes c.args.rows.now.items c.in-Some.place c.index_mut.result.now
    (ap (position (is_of c.args.to)) (sym c.deref.ensures.value) ∙ (sym c.place_of.ensures ∙ c.in-Some.is)) c.index_mut.ensures.value

pub returns-in-None-clause-rows : goal.returns-in-None-clause-rows
returns-in-None-clause-rows g c =
    c.push_reserved.ensures.items
    ∙ sym (counted_behind c.args.to c.args.bytes c.args.rows.now.items
    (found_nowhere (is_of c.args.to) c.args.rows.now.items (ap (position (is_of c.args.to)) (sym c.deref.ensures.value) ∙ (sym c.place_of.ensures ∙ c.in-None.is))))

use Rattle.std.proofs.Common.{sym, ◌∙◌}
use Rattle.lisp_budget.specs.Budget.{is_of}
use Rattle.lisp_budget.proofs.RowLaws.{found, found_nowhere}
use Rattle.lisp_budget.proofs.rows.row_of.Goals as goal

pub returns-in_err-place : goal.returns-in_err-place
returns-in_err-place c =
    c.from_residual.ensures ∙ sym (found_nowhere (is_of c.args.to.now) c.args.rows.now (sym c.place_of.ensures ∙ c.in_err-place.was))

pub returns : goal.returns
returns c =
    found (is_of c.args.to.now) c.args.rows.now c.in_ok-place.place c.index-rows-place.result (sym c.place_of.ensures ∙ c.in_ok-place.was) c.index-rows-place.is

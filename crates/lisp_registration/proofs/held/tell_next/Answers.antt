use Rattle.std.proofs.Common.{Some, ap, ◌∙◌}
use Rattle.lisp_records.specs.Row.{RowValue}
use Rattle.lisp_registration.proofs.Holding.{row_full, row_told}
use Rattle.lisp_registration.proofs.held.tell_next.Goals as goal

pub returns-then-not-put_locators : goal.returns-then-not-put_locators
returns-then-not-put_locators g c = (
  Some (c.in-Some.found, c.in-Some.held.now),
  c.in-Some.ensures,
  row_full c.in-Some.held.now c.in-Some.found c.args.place.now c.number.result c.args.row.now c.args.row.now c.locators.result.now c.args.locators.now c.put_locators.new.plain c.put_locators.result
      (c.locators.ensures.value ∙ ap (λ (h : RowValue). h.mapping.locators) c.held.view_is) c.put_locators.ensures c.number.ensures c.if-not-put_locators.true,
)

pub returns : goal.returns
returns g c = (
  Some (c.in-Some.found, c.in-Some.held.now),
  c.in-Some.ensures,
  (λ i. (0, (c.saturating_add.ensures i, (c.of.result, c.put_locators.new.plain)))) ∙ row_told c.in-Some.held.now c.in-Some.found c.args.place.now 0 c.args.row.now c.of.result c.locators.result.now c.args.locators.now c.put_locators.new.plain c.put_locators.result
      (c.locators.ensures.value ∙ ap (λ (h : RowValue). h.mapping.locators) c.held.view_is) c.put_locators.ensures c.of.ensures c.if-not-put_locators.false,
)

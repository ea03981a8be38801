use Rattle.std.proofs.Common.{◌≤◌, vec_capacity, length, sym, subst, arith}
use Rattle.lisp_budget.specs.Budget.{BudgetState, most_known, row_of, Differ}
use Rattle.lisp_budget.proofs.RowLaws.{differ_counted}
use Rattle.lisp_budget.proofs.BudgetLaws.{MaySend, may_parts, room_left, few_counted}
use Rattle.lisp_budget.proofs.budget.Budget.count.Goals as goal

pub count_in-requires-clause-room : goal.count_in-requires-clause-room
count_in-requires-clause-room g c = λ none.
    let may = subst (λ (b : BudgetState). MaySend b c.args.to c.args.bytes) (sym c.self.view_is) (may_parts c.args.self.now c.args.to c.args.bytes c.requires) in
    let room : most_known ≤ vec_capacity c.self.inside.rows = c.self.invariant.0 in
    let left = room_left (row_of c.self.inside.rows.items c.args.to) (length c.self.inside.rows.items) may.room none in
    omega (arith, room, left, c.self.inside.rows.ok.0)

pub count_in-requires-clause-fits : goal.count_in-requires-clause-fits
count_in-requires-clause-fits g c =
    let may = subst (λ (b : BudgetState). MaySend b c.args.to c.args.bytes) (sym c.self.view_is) (may_parts c.args.self.now c.args.to c.args.bytes c.requires) in
    let each = may.each in
    omega (arith, each, c.self.ranges)

pub invariant_of-self : goal.invariant_of-self
invariant_of-self g c =
    let may = subst (λ (b : BudgetState). MaySend b c.args.to c.args.bytes) (sym c.self.view_is) (may_parts c.args.self.now c.args.to c.args.bytes c.requires) in
    let room : most_known ≤ vec_capacity c.self.inside.rows = c.self.invariant.0 in
    let few : length c.self.inside.rows.items ≤ most_known = c.self.invariant.1 in
    let differ : Differ c.self.inside.rows.items = c.self.invariant.2 in (
      omega (arith, room, c.count_in.ensures.capacity),
      rw c.count_in.ensures.rows (few_counted c.self.inside.rows.items c.args.to c.args.bytes few may.room),
      rw c.count_in.ensures.rows (differ_counted c.args.to c.args.bytes c.self.inside.rows.items differ),
    )

use Rattle.std.proofs.Common.{◌≤◌, vec_capacity, length, arith}
use Rattle.lisp_budget.specs.Budget.{most_known, Differ}
use Rattle.lisp_budget.proofs.RowLaws.{passed_fewer, differ_passed}
use Rattle.lisp_budget.proofs.budget.Budget.begin_next.Goals as goal

pub invariant_of-self : goal.invariant_of-self
invariant_of-self g c =
    let room : most_known ≤ vec_capacity c.self.inside.rows = c.self.invariant.0 in
    let few : length c.self.inside.rows.items ≤ most_known = c.self.invariant.1 in
    let differ : Differ c.self.inside.rows.items = c.self.invariant.2 in
    let fewer = passed_fewer c.self.inside.rows.items in (
      omega (arith, room, c.pass_rows.ensures.capacity),
      rw c.pass_rows.ensures.rows (omega arith),
      rw c.pass_rows.ensures.rows (differ_passed c.self.inside.rows.items differ),
    )

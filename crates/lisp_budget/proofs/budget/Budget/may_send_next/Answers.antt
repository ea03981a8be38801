use Rattle.std.proofs.Common.{◌≡◌, ◌≤◌, nat_lt, length, subst, ◌∙◌, rules}
use Rattle.lisp_budget.specs.Budget.{BudgetState, most_known, Differ}
use Rattle.lisp_budget.proofs.BudgetLaws.{may_begin, may_begin_next}
use Rattle.lisp_budget.proofs.budget.Budget.may_send_next.Goals as goal

pub returns-then-is_some : goal.returns-then-is_some
returns-then-is_some g c =
    (let e : c.is_some.result ≡ may_begin c.args.self.now c.args.to.now c.args.bytes = search rules in e)
    ∙ may_begin_next c.args.self.now c.args.to.now c.args.bytes (subst (λ (b : BudgetState). Differ b.rows) c.self.view_is c.self.invariant.2) (subst (λ (b : BudgetState). length b.rows ≤ most_known) c.self.view_is c.self.invariant.1)

pub returns-else-is_some : goal.returns-else-is_some
returns-else-is_some g c =
    (let e : nat_lt c.count_present.result 4096 ≡ may_begin c.args.self.now c.args.to.now c.args.bytes = search rules in e)
    ∙ may_begin_next c.args.self.now c.args.to.now c.args.bytes (subst (λ (b : BudgetState). Differ b.rows) c.self.view_is c.self.invariant.2) (subst (λ (b : BudgetState). length b.rows ≤ most_known) c.self.view_is c.self.invariant.1)

pub returns-else-is_within-2 : goal.returns-else-is_within-2
returns-else-is_within-2 g c =
    (let e : c.if-is_within.value ≡ may_begin c.args.self.now c.args.to.now c.args.bytes = search rules in e)
    ∙ may_begin_next c.args.self.now c.args.to.now c.args.bytes (subst (λ (b : BudgetState). Differ b.rows) c.self.view_is c.self.invariant.2) (subst (λ (b : BudgetState). length b.rows ≤ most_known) c.self.view_is c.self.invariant.1)

use Rattle.std.proofs.Common.{◌≡◌, true, rules}
use Rattle.lisp_budget.specs.Budget.{slot_of, at_slot, may_send, counted, destination, message}
use Rattle.lisp_budget.proofs.AccountLaws.{accounts_taken}
use Rattle.lisp_budget.proofs.budget.Budget.take.Goals as goal

pub returns-clause-accounts : goal.returns-clause-accounts
returns-clause-accounts g c = λ sent accounts early.
    let state : c.count.new.self ≡ counted (at_slot c.args.self.now (slot_of c.args.now)) (destination c.args.to.now) c.args.bytes = search rules in
    let may : may_send (at_slot c.args.self.now (slot_of c.args.now)) (destination c.args.to.now) c.args.bytes ≡ true = search rules in
    rw state (accounts_taken c.args.self.now sent (message c.args.to.now c.args.bytes c.args.now) accounts early may)

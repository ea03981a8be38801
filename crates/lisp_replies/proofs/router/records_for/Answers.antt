use Rattle.std.proofs.Common.{inr, List, refl, sym, subst}
use Rattle.lisp_records.specs.Record.{MapRecordValue}
use Rattle.lisp_replies.specs.Own.{OwnRepliesWith}
use Rattle.lisp_replies.proofs.OwnHoleLaws.{none_inside, nowhere_sent, replies_with}
use Rattle.lisp_replies.proofs.router.records_for.Goals as goal

pub returns-in_default-widest_that_fits-clause-unanswered :
    goal.returns-in_default-widest_that_fits-clause-unanswered
returns-in_default-widest_that_fits-clause-unanswered g c = λ _. inr (c.in-Some.longest.now, c.in-Some.ensures.longest, nowhere_sent c.args.records.now c.in-Some.longest.now c.args.asked.now c.in-Some.ensures.longest.over c.args.probed (c.in_default-widest_that_fits.ensures.nowhere refl))

pub returns-in_default-widest_that_fits-clause-alone :
    goal.returns-in_default-widest_that_fits-clause-alone
returns-in_default-widest_that_fits-clause-alone g c = λ _ full. absurd (c.in_default-widest_that_fits.ensures.some refl (none_inside c.args.records.now c.args.asked.now c.longest_for.ensures.prefixes full))

pub returns-clause-records : goal.returns-clause-records
returns-clause-records g c = subst (λ (rs : List MapRecordValue). OwnRepliesWith c.args.records.now c.args.asked.now c.args.probed rs) (sym c.from_vec.ensures)
    (replies_with c.args.records.now c.in-Some.longest.now c.args.asked.now c.in-Some.ensures.longest.over c.args.probed c.in-Some-widest_that_fits.eid c.in_ok-own.own.items c.in-Some.ensures.longest c.in-Some-widest_that_fits.ensures.widest c.in_ok-own.ensures.own)

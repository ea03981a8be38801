use Rattle.std.proofs.Common.{inr, sym, ap, ◌∙◌}
use Rattle.lisp_records.specs.Row.{RowValue}
use Rattle.lisp_replies.proofs.FitLaws.{of_found, replies_for}
use Rattle.lisp_replies.proofs.server.reply_for.Goals as goal

pub returns-in-Some-2-clause-reply : goal.returns-in-Some-2-clause-reply
returns-in-Some-2-clause-reply g c =
    let widest = of_found _ _ _ c.in-Some-2.is c.in_ok-records.ensures.widest in
    let proxy = ap (λ (h : RowValue). h.proxy) (sym c.best.view_is) ∙ c.if-not-best.false in
    rw (c.from_vec.ensures) (replies_for c.args.table.now.rows c.args.sites.now c.args.asked.now c.args.starting c.args.now c.in-Some.best.now c.in-Some-2.records.items c.in-Some.ensures.best proxy widest (sym c.is_held_back.ensures ∙ c.if-is_held_back.false))

pub returns-in-None-clause-unanswered : goal.returns-in-None-clause-unanswered
returns-in-None-clause-unanswered g c = λ _. inr (record {
  best = c.in-Some.best.now;
  is_best = c.in-Some.ensures.best;
  proxy = ap (λ (h : RowValue). h.proxy) (sym c.best.view_is) ∙ c.if-not-best.false;
  free = sym c.is_held_back.ensures ∙ c.if-is_held_back.false;
  nowhere = c.in_ok-records.ensures.nowhere c.in-None.is;
})

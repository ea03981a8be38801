use Rattle.std.proofs.Common.{ℕ, List, Option, sym, ap, ◌∙◌, inl, inr}
use Rattle.std.specs.Option.{option_flatten}
use Rattle.lisp_client.specs.Answers.{counted_of}
use Rattle.lisp_client.proofs.Promise.{lists, part_read, promised, not_there, if_none, at_value, at_fault}
use Rattle.lisp_client.proofs.client.heard.Goals as goal

pub returns-clause-told : goal.returns-clause-told
returns-clause-told g c = λ config events ran.
    let one = lists _ _ _ _ _ (sym c.in_ok-server.ensures) c.clock.ensures (at_value c.held.result _ c.in_ok-rows.rows c.in_ok-rows.ensures.value c.held.ensures.held) in
    let other = lists _ _ _ _ _ (sym c.in_ok-server-2.ensures) c.clock-2.ensures (at_value c.held-2.result _ c.in_ok-other_rows.other_rows c.in_ok-other_rows.ensures.value c.held-2.ensures.held) in
    let part = c.args.question.part in
    promised config events _ ran c.args.question _ _ one other _ (sym c.in_ok-router.ensures) _
    (c.flatten-counted.ensures ∙ ap option_flatten c.copied.ensures ∙ part_read c.acked-acked.result.now part c.get.result c.get.ensures.lookup.0 c.get.ensures.lookup.1
    ∙ ap (λ (counted : List (Option (ℕ × ℕ))). counted_of counted part) c.acked-acked.ensures)

pub returns-in_err-router-clause-untold : goal.returns-in_err-router-clause-untold
returns-in_err-router-clause-untold g c = if_none c.from_residual.result _ (inr (λ config events ran. not_there config events _ ran _ (inr (inr (sym c.in_err-router.ensures)))))

pub returns-in_err-server-clause-untold : goal.returns-in_err-server-clause-untold
returns-in_err-server-clause-untold g c = if_none c.from_residual-in_err-server.result _ (inr (λ config events ran. not_there config events _ ran _ (inl (sym c.in_err-server.ensures))))

pub returns-in_err-server-2-clause-untold : goal.returns-in_err-server-2-clause-untold
returns-in_err-server-2-clause-untold g c = if_none c.from_residual-in_err-server-2.result _ (inr (λ config events ran. not_there config events _ ran _ (inr (inl (sym c.in_err-server-2.ensures)))))

pub returns-in_err-other_rows-clause-untold : goal.returns-in_err-other_rows-clause-untold
returns-in_err-other_rows-clause-untold g c = if_none c.from_residual-in_err-other_rows.result _ (inl (at_fault c.held-2.result _ c.in_err-other_rows.ensures.value c.held-2.ensures.memory))

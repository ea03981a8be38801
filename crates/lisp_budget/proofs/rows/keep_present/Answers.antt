use Rattle.std.proofs.Common.{rules}
use Rattle.std.proofs.lemmas.Fn.{filter_same}
use Rattle.lisp_budget.proofs.rows.keep_present.Goals as goal

pub returns-clause-rows : goal.returns-clause-rows
returns-clause-rows g c = filter_same _ _ _ (λ x b f' k. search rules) _ _ c.retain.ensures.filtered

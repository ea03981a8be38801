use Rattle.std.proofs.Common.{inl}
use Rattle.lisp_client.proofs.Promise.{if_some, if_none, none_more, unheard}
use Rattle.lisp_client.proofs.client.ask.Goals as goal

pub returns-clause-told : goal.returns-clause-told
returns-clause-told g c = if_some c.heard.result _ _ (λ told promised. promised _ _ c.in_ok-world.ensures.ran) c.heard.ensures.told

pub returns-in_err-world-clause-untold : goal.returns-in_err-world-clause-untold
returns-in_err-world-clause-untold g c = if_none c.from_residual.result _ (inl c.in_err-world.ensures.not_run)

pub returns-clause-untold : goal.returns-clause-untold
returns-clause-untold g c = none_more c.heard.result _ _ (λ none. unheard g.A.Memory.may_refuse _ _ _ c.in_ok-world.ensures.ran _ none) c.heard.ensures.untold

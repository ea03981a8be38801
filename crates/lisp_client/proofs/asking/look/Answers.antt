use Rattle.std.proofs.Common.{inl, inr, refl}
use Rattle.lisp_client.proofs.Promise.{if_none}
use Rattle.lisp_client.proofs.Looking.{is_looked, no_server, ok_some, err_none}
use Rattle.lisp_client.proofs.asking.look.Goals as goal

pub returns-clause-looked : goal.returns-clause-looked
returns-clause-looked g c = ok_some c.in_ok-answer.answer c.ok.result _ _ c.ok.ensures.value (λ reply. is_looked _ _ _ c.in_ok-world.ensures.ran _ _ _ reply) c.in_ok-answer.ensures.promised

pub returns-in_err-world-clause-in_vain : goal.returns-in_err-world-clause-in_vain
returns-in_err-world-clause-in_vain g c = if_none c.from_residual.result _ (inl c.in_err-world.ensures.not_run)

pub returns-in_err-answer-clause-in_vain : goal.returns-in_err-answer-clause-in_vain
returns-in_err-answer-clause-in_vain g c = if_none c.from_residual-in_err-answer.result _ (inr (no_server _ _ _ c.in_ok-world.ensures.ran _ (c.in_err-answer.ensures.missing refl)))

pub returns-clause-in_vain : goal.returns-clause-in_vain
returns-clause-in_vain g c = err_none c.in_ok-answer.answer c.ok.result _ _ c.ok.ensures.value (λ out. inl (inr (inr out))) c.in_ok-answer.ensures.memory

use Rattle.std.proofs.Common.{refl, ◌∙◌, append_assoc}
use Rattle.std.proofs.lemmas.Result.{IfOk-weaker}
use Rattle.lisp_control.proofs.disallowed.disallowed_head.Goals as goal

pub returns-clause-text : goal.returns-clause-text
returns-clause-text c = IfOk-weaker c.try_format.result _ _ (λ text is. is ∙ simp append_assoc refl) c.try_format.ensures.ok

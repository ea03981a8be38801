use Rattle.lisp_refusals.proofs.Writing.{appends_two, ok_weaker}
use Rattle.lisp_refusals.proofs.document.explain_all.Goals as goal

pub returns-clause-ok : goal.returns-clause-ok
returns-clause-ok g c = ok_weaker c.write_sections.result _ _ (λ rest. (c.opening.result.now, c.sections.result, c.sections.ensures, appends_two _ _ _ _ _ c.in_ok-write_text.ensures.ok rest)) c.write_sections.ensures.ok

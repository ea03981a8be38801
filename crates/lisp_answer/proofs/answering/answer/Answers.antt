use Rattle.lisp_answer.proofs.AnsweringLemmas.{adds, adds_front}
use Rattle.lisp_answer.proofs.answering.answer.Goals as goal

pub returns-in-Ok-clause-ok : goal.returns-in-Ok-clause-ok
returns-in-Ok-clause-ok g c = adds g.A.Memory.may_refuse c.args.setup.now _ _ _ _ c.in_ok-line.ensures.line (rw c.as_bytes.ensures.value at c.in-Ok.ensures.ok)

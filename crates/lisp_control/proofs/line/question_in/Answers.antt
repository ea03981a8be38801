use Rattle.std.proofs.Common.{refl}
use Rattle.lisp_control.proofs.Asking.{differs}
use Rattle.lisp_control.proofs.line.question_in.Goals as goal

pub returns-in_default-clause-question : goal.returns-in_default-clause-question
returns-in_default-clause-question c = (let other = c.in_default in rw (differs _ c.args.line.now other.not-compare, differs _ c.args.line.now other.not-reload) c.question_of_line.ensures)

pub returns-in_default-clause-left : goal.returns-in_default-clause-left
returns-in_default-clause-left c = (let other = c.in_default in rw (differs _ c.args.line.now other.not-compare, differs _ c.args.line.now other.not-reload) refl)

use Rattle.lisp_answer.proofs.AnsweringLemmas.{not_decoded}
use Rattle.lisp_answer.proofs.line.words_for.Goals as goal

pub returns-in-Err : goal.returns-in-Err
returns-in-Err g c = not_decoded g.A.Memory.may_refuse c.args.sites c.args.digits.now c.in-Err.fault c.words_of_fault.result c.in-Err.ensures.err c.words_of_fault.ensures

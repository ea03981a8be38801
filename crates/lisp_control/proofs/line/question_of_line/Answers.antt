use Rattle.std.proofs.Common.{sym, ◌∙◌}
use Rattle.lisp_control.proofs.line.question_of_line.Goals as goal

pub returns-in-None : goal.returns-in-None
returns-in-None c = rw (sym c.own_question.ensures ∙ c.in-None.is, ← c.parted.ensures.word, ← c.parted.ensures.rest) c.question_by_word.ensures

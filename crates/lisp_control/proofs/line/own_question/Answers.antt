use Rattle.lisp_control.proofs.Asking.{no_own_word}
use Rattle.lisp_control.proofs.line.own_question.Goals as goal

pub returns-in_default : goal.returns-in_default
returns-in_default c = (let other = c.in_default in no_own_word c.args.line.now other.not-records other.not-routers other.not-counts other.not-text other.not-nodes)

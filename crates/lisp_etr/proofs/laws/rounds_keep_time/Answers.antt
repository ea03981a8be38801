use Rattle.lisp_etr.proofs.TimerLaws.{rounds_keep_time}
use Rattle.lisp_etr.proofs.laws.rounds_keep_time.Goals as goal

pub returns : goal.returns
returns c = rounds_keep_time

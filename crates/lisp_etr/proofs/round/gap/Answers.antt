use Rattle.std.proofs.Common.{sym, arith}
use Rattle.lisp_etr.proofs.TimerLaws.{gap_late}
use Rattle.lisp_etr.proofs.round.gap.Goals as goal

pub returns-in_default : goal.returns-in_default
returns-in_default c = sym (gap_late c.args.sends (omega arith))

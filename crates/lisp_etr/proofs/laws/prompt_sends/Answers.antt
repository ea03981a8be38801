use Rattle.lisp_etr.proofs.TimerLaws.{prompt_sends}
use Rattle.lisp_etr.proofs.laws.prompt_sends.Goals as goal

pub returns : goal.returns
returns c = prompt_sends

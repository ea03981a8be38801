use Rattle.lisp_model.proofs.CleanLaws.{done_was_noticed}
use Rattle.lisp_model.proofs.laws.done_notices_were_noticed.Goals as goal

pub returns : goal.returns
returns c = done_was_noticed

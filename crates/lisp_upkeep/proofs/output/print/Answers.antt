use Rattle.lisp_upkeep.proofs.Written.{flushed_some, holds_on_err}
use Rattle.lisp_upkeep.proofs.output.print.Goals as goal

pub returns-clause-some : goal.returns-clause-some
returns-clause-some g c = holds_on_err c.flush.result (flushed_some _ _ _ _ c.in_ok-write_text.ensures.ok c.flush.ensures.same)

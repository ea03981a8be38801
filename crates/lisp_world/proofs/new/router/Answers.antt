use Rattle.std.proofs.lemmas.Result.{IfOk-weaker}
use Rattle.lisp_world.proofs.new.router.Goals as goal

pub returns-clause-router : goal.returns-clause-router
returns-clause-router g c = IfOk-weaker c.down.result _ _ (λ n is. (c.entry_at.result.now, c.entry_at.ensures.there, is)) c.down.ensures.router

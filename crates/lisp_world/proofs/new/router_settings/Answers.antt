use Rattle.std.proofs.lemmas.Result.{IfOk-weaker}
use Rattle.lisp_world.proofs.new.router_settings.Goals as goal

pub returns-clause-settings : goal.returns-clause-settings
returns-clause-settings g c = IfOk-weaker c.settings.result _ _ (λ s is. (c.entry_at.result.now, c.entry_at.ensures.there, is)) c.settings.ensures.settings

use Rattle.std.proofs.lemmas.Result.{on_ok_weaker}
use Rattle.lisp_database_store.proofs.shared.SharedDatabase.save.Goals as goal

pub returns-in-Ok-clause-saved : goal.returns-in-Ok-clause-saved
returns-in-Ok-clause-saved g c = on_ok_weaker c.save.result (λ joins. (c.deref_mut.result.now, c.save.new.self, joins)) c.save.ensures.saved

use Rattle.std.proofs.lemmas.Result.{IfOk-weaker}
use Rattle.lisp_database_store.proofs.database.Database.sign.Goals as goal

pub returns : goal.returns
returns g c = IfOk-weaker c.sign_as.result _ _ (λ change signs. (c.in_ok-now.now, signs)) c.sign_as.ensures

use Rattle.std.proofs.Common.{ap}
use Rattle.std.proofs.lemmas.Result.{on_ok_weaker}
use Rattle.lisp_check.proofs.SecretWarnings.{both}
use Rattle.lisp_check.proofs.secret.warn_of_secret.Goals as goal

pub returns : goal.returns
returns c = on_ok_weaker _ (both c.args.firsts.now c.args.secret.now c.secret.inside.place c.first_like.result _ _ _ (ap (λ k. k.place) c.secret.view_is) c.first_like.ensures c.in_ok-warn_of_length.ensures) c.warn_of_like.ensures

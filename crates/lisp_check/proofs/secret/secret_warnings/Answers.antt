use Rattle.lisp_check.proofs.Each.{parted}
use Rattle.lisp_check.proofs.SecretWarnings.{more_secrets}
use Rattle.lisp_check.proofs.secret.secret_warnings.Goals as goal

pub loop-rest-preserved : goal.loop-rest-preserved
loop-rest-preserved c =
    let parts = parted c.loop-rest.rest.now c.secret-item.result c.in-len1-up.len_at_least c.secret-item.is in
    more_secrets c.args.secrets.now _ _ _ _ c.secret-item.result parts (c.in_ok-warn_of_secret.ensures c.args.secrets.now c.in_ok-firsts.ensures) c.loop-rest.invariant

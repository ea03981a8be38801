use Rattle.std.proofs.Common.{List, subst, arith}
use Rattle.std.proofs.lemmas.List.{nil_from_length}
use Rattle.lisp_check.specs.Secret.{KeySecretValue}
use Rattle.lisp_check.proofs.Each.{parted}
use Rattle.lisp_check.proofs.SecretWarnings.{GoesOn, no_firsts, one_more_first, all_firsts}
use Rattle.lisp_check.proofs.secret.first_places.Goals as goal

pub loop-rest-init : goal.loop-rest-init
loop-rest-init c = no_firsts _ c.args.secrets.now c.new-firsts.ensures.empty

pub loop-rest-preserved : goal.loop-rest-preserved
loop-rest-preserved c =
    let parts = parted c.loop-rest.rest.now c.secret-item.result c.in-len1-up.len_at_least c.secret-item.is in
    one_more_first _ _ c.secret-item.result _ _ (subst (λ (l : List KeySecretValue). GoesOn c.loop-rest.firsts l c.args.secrets.now) parts c.loop-rest.invariant) c.in_ok-add_first.ensures

pub returns : goal.returns
returns c =
    let none = nil_from_length c.loop-rest.rest.now (omega (arith, c.in_default.len_below)) in
    all_firsts _ _ (subst (λ (l : List KeySecretValue). GoesOn c.loop-rest.firsts l c.args.secrets.now) none c.loop-rest.invariant)

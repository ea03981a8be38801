use Rattle.std.proofs.Common.{◌∙◌, ap, sym}
use Rattle.lisp_check.proofs.SecretWarnings.{new_place}
use Rattle.lisp_check.proofs.secret.add_first.Goals as goal

pub returns-in_ok-try_insert : goal.returns-in_ok-try_insert
returns-in_ok-try_insert c =
    let here = c.as_slice-bytes.ensures ∙ ap (λ k. k.secret) c.secret.view_is in
    new_place
    c.args.firsts.now c.try_insert.new.self c.as_slice-bytes.result c.secret.inside.place c.args.secret.now here (ap (λ k. k.place) c.secret.view_is)
    (sym c.contains_key.ensures ∙ c.if-not-contains_key.true) c.in_ok-try_insert.ensures.updates

use Rattle.std.proofs.Common.{◌∙◌, ap, ℕ, List, Option}
use Rattle.lisp_check.specs.declared.secret.KeyPlace.{KeyPlace}
use Rattle.lisp_check.specs.Secret.{place_for, unless_own}
use Rattle.lisp_check.proofs.SecretWarnings.{first_found}
use Rattle.lisp_check.proofs.secret.first_like.Goals as goal

pub returns : goal.returns
returns c = rw (← c.secret.view_is) (λ secrets are.
    c.unless_own.ensures
    ∙ ap (λ (o : Option KeyPlace). unless_own c.secret.inside.place o) (c.copied.ensures ∙ c.get.ensures.value ∙ ap (λ (l : List ℕ). place_for c.args.firsts.now l) c.as_slice.ensures)
    ∙ first_found c.args.firsts.now secrets (record { place = c.secret.inside.place; secret = c.secret.inside.secret }) are)

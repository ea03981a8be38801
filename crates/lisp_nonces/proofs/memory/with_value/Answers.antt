use Rattle.std.proofs.Common.{[], ◌∷◌, Some, length-append, arith, ℕ, ◌<◌, List, Option, length, sym, subst}
use Rattle.lisp_nonces.proofs.memory.with_value.Goals as goal

pub returns-clause-some : goal.returns-clause-some
returns-clause-some g c =
    let more = length-append c.in_ok-kept.kept.items (Some c.args.nonce ∷ []) in
    rw c.in_ok-try_push.ensures.items (omega (arith, more))

pub returns-then-contains-clause-some : goal.returns-then-contains-clause-some
returns-then-contains-clause-some g c = subst (λ (vs : List (Option ℕ)). 0 < length vs) (sym c.in_ok-kept.ensures.items) c.requires

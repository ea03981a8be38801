-- What a store keeps before anything was saved.
use Rattle.std.proofs.Common.{◌≡◌, ℕ, List, [], ◌∷◌, Option, None, ap}
use Rattle.std.specs.FinMap.{empty, get-empty}
use Rattle.std.specs.Option.{unwrap_or}
use Rattle.lisp_nonces.specs.declared.pair.Pair.{Pair}
use Rattle.lisp_nonces.specs.Pair.{pair_cmp}
use Rattle.lisp_nonces.specs.Kept.{kept_at}

-- nothing is kept
pub kept_at-empty : (q : Pair) → kept_at empty q ≡ None ∷ []
unfolding kept_at
kept_at-empty q = ap (λ (o : Option (List (Option ℕ))). unwrap_or o (None ∷ [])) (get-empty pair_cmp q)

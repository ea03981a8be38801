-- What a save serves and leaves.
use Rattle.std.proofs.Common.{◌≡◌, ◌⊎◌, inl, inr, ℕ, zero, suc, ◌≤◌, List, [], ◌∷◌, Option, Some, subst, arith}
use Rattle.std.specs.List.{Contains}
use Rattle.std.proofs.lemmas.List.Elements.{Contains-push_cases}
use Rattle.lisp_nonces.specs.Kept.{number, InDoubt, NoneBelow}
use Rattle.lisp_etr.specs.Sending.{last_nonce, block_end, IsBound}

-- a block ends at its nonce or less than 1,024 above it, and not past the last nonce
pub block_bound : (nonce block : ℕ) → nonce ≤ last_nonce → IsBound nonce last_nonce (block_end nonce block)
block_bound nonce block within = record { least = omega (arith, within); near = omega arith; most = omega arith }

-- what was below no value is below none of a list to which a number above it may have been added
pub none_below : (n m : ℕ) (old new : List (Option ℕ)) → n ≤ m → InDoubt old new m → NoneBelow n old → NoneBelow n new
none_below n m old new within (inl same) none v has = none v (subst (λ (vs : List (Option ℕ)). Contains vs v) same has)
none_below n m old new within (inr more) none v has = here (Contains-push_cases old (Some m) v (subst (λ (vs : List (Option ℕ)). Contains vs v) more has))
  where
    here : Contains old v ⊎ (Some m ≡ v) → n ≤ number v
    here (inl was) = none v was
    here (inr is) = subst (λ (x : Option ℕ). n ≤ number x) is within

-- a number is below no value of a list of which it is the only one
pub alone : (n : ℕ) (new : List (Option ℕ)) → new ≡ Some n ∷ [] → NoneBelow n new
alone n new is v has = here v (subst (λ (vs : List (Option ℕ)). Contains vs v) is has)
  where
    here : (v : Option ℕ) → Contains (Some n ∷ []) v → n ≤ number v
    here v (zero, lt, at) = subst (λ (x : Option ℕ). n ≤ number x) at (omega arith)
    here v (suc k, lt, at) = absurd (omega (arith, lt))

-- What raised nonces are good for.
use Rattle.std.specs.Prelude.{◌≡◌, ℕ, ◌+◌, ◌-◌, ◌^◌, ◌<◌, ◌≤◌, List, Option, Some, None, IsTrue}
use Rattle.std.specs.List.{All, Contains}
use Rattle.lisp_nonces.specs.declared.pair.Pair.{Pair}
use Rattle.lisp_nonces.specs.declared.pair.PairKind.TheVariants.{Sent, Received}
use Rattle.lisp_nonces.specs.Kept.{Kept, kept_at, NoneBelow}
use Rattle.lisp_nonces.specs.Store.{StoreState}
use Rattle.lisp_store.specs.declared.kept_nonce.KeptNonce.{KeptNonce}
use Rattle.lisp_admission.specs.Nonces.{IsFresh, IsBelow, IsNear}
use Rattle.lisp_upkeep.specs.Raising.{greatest, raised_nonce, KeepsAllRaised, KeepsOrRaises}

-- a copy has a nonce for the pair, and this one is within so much of each
pub record IsWithin (by : ℕ) (copy : List KeptNonce) (pair : Pair) (nonce : ℕ) : Type 0 where
  pub has : (k : KeptNonce) × Contains copy k × (k.pair ≡ pair)
  pub near : (k : KeptNonce) → Contains copy k → k.pair ≡ pair → nonce ≤ k.nonce + by
  pub is_nonce : nonce ≤ greatest pair.kind

-- no value of a store that keeps a copy raised is below such a nonce
abbrev pub KeepsAtLeastWhatWasAccepted : Type 0
KeepsAtLeastWhatWasAccepted = (by : ℕ) (copy : List KeptNonce) (kept : Kept) → KeepsAllRaised by copy kept
    → (pair : Pair) (nonce : ℕ) → IsWithin by copy pair nonce → NoneBelow nonce (kept_at kept pair)

-- such a nonce isn't above what an honest store of this kind may answer to a Map-Server that just started
abbrev pub RefusesWhatWasAccepted : Type 0
RefusesWhatWasAccepted = (by : ℕ) (copy : List KeptNonce) (store : StoreState) → IsTrue store.is_honest → KeepsAllRaised by copy store.kept
    → (pair : Pair) (nonce : ℕ) → IsWithin by copy pair nonce → (jump : Option ℕ) → ¬ (IsFresh jump None store pair nonce)

-- a list is of what a store keeps
abbrev pub AreKept : List KeptNonce → Kept → Type 0
AreKept nonces kept = All (λ k. Contains (kept_at kept k.pair) (Some k.nonce)) nonces

-- a bound below all that may be kept for a pair stays below
abbrev pub LowersNothing : Type 0
LowersNothing = (by : ℕ) (nonces : List KeptNonce) (before after : Kept) → AreKept nonces before → KeepsOrRaises by nonces before after
    → (pair : Pair) (bound : ℕ) → NoneBelow bound (kept_at before pair) → NoneBelow bound (kept_at after pair)

-- the next nonce of a router is above that of a Map-Server's copy, both raised, and as near to it as without
abbrev pub LetsRoutersThrough : Type 0
LetsRoutersThrough = (by copy last : ℕ) → copy ≤ last → last + by < 2 ^ 63 - 1
    → IsBelow (Some (raised_nonce by Received copy)) (raised_nonce by Sent last + 1) × IsNear (Some (last + 1 - copy)) (Some (raised_nonce by Received copy)) (raised_nonce by Sent last + 1)

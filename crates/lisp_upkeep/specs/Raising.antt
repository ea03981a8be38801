-- What raising makes of nonces, and of the store that keeps them.
use Rattle.std.specs.Prelude.{◌≡◌, ◌⊎◌, ℕ, ◌+◌, ◌-◌, ◌^◌, min, max, List, [], ◌∷◌, Option, Some}
use Rattle.std.specs.List.{All, Contains}
use Rattle.lisp_nonces.specs.declared.pair.Pair.{Pair}
use Rattle.lisp_nonces.specs.declared.pair.PairKind.{PairKind}
use Rattle.lisp_nonces.specs.declared.pair.PairKind.TheVariants.{Sent}
use Rattle.lisp_nonces.specs.Kept.{Kept, kept_at}
use Rattle.lisp_store.specs.declared.kept_nonce.KeptNonce.{KeptNonce}

-- the greatest nonce of a kind: what a router sends is in the lower half
abbrev pub greatest : PairKind → ℕ
greatest Sent = 2 ^ 63 - 1
greatest _ = 2 ^ 64 - 1

-- a nonce that is so much above one, at most the greatest; never below it
abbrev pub raised_nonce : ℕ → PairKind → ℕ → ℕ
raised_nonce by kind nonce = max (min (nonce + by) (greatest kind)) nonce

-- a nonce that is kept, raised
abbrev pub raised : ℕ → KeptNonce → KeptNonce
raised by k = record { pair = k.pair; nonce = raised_nonce by k.pair.kind k.nonce }

-- the value is that of a nonce of the list for the pair, raised
abbrev pub IsRaised : ℕ → List KeptNonce → Pair → Option ℕ → Type 0
IsRaised by nonces pair value = (k : KeptNonce) × Contains nonces k × (k.pair ≡ pair) × (value ≡ Some (raised by k).nonce)

-- such a value alone is kept for the pair
abbrev pub KeepsRaised : ℕ → List KeptNonce → Kept → Pair → Type 0
KeepsRaised by nonces kept pair = (value : Option ℕ) × IsRaised by nonces pair value × (kept_at kept pair ≡ value ∷ [])

-- so it is for each pair of the list
abbrev pub KeepsAllRaised : ℕ → List KeptNonce → Kept → Type 0
KeepsAllRaised by nonces kept = All (λ k. KeepsRaised by nonces kept k.pair) nonces

-- what may be kept for a pair afterwards may have been before, or is such a value
abbrev pub KeepsOrRaises : ℕ → List KeptNonce → Kept → Kept → Type 0
KeepsOrRaises by nonces before after = (q : Pair) (value : Option ℕ) → Contains (kept_at after q) value → Contains (kept_at before q) value ⊎ IsRaised by nonces q value

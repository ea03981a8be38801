-- What a store that keeps raised nonces refuses.
use Rattle.std.proofs.Common.{◌≡◌, ◌⊎◌, ℕ, ◌+◌, ◌<◌, ◌≤◌, min, max, List, [], ◌∷◌, Option, Some, sym, ap, ◌∙◌, subst, inl, inr, arith}
use Rattle.std.specs.List.{Contains}
use Rattle.std.proofs.lemmas.List.Elements.{All-contains}
use Rattle.lisp_nonces.specs.declared.pair.Pair.{Pair}
use Rattle.lisp_nonces.specs.Kept.{Kept, kept_at, number, NoneBelow}
use Rattle.lisp_store.specs.declared.kept_nonce.KeptNonce.{KeptNonce}
use Rattle.lisp_admission.specs.Nonces.{IsBelow}
use Rattle.lisp_upkeep.specs.Raising.{greatest, raised, IsRaised, KeepsRaised, KeepsAllRaised}
use Rattle.lisp_upkeep.specs.Laws.{IsWithin, KeepsAtLeastWhatWasAccepted, RefusesWhatWasAccepted, AreKept, LowersNothing}
use Rattle.lisp_upkeep.proofs.Saved.{alone}

reached : (nonce by most old : ℕ) → nonce ≤ old + by → nonce ≤ most → nonce ≤ max (min (old + by) most) old
reached nonce by most old near is_nonce = omega (arith, near, is_nonce)

not_lowered : (by most old : ℕ) → old ≤ max (min (old + by) most) old
not_lowered by most old = omega arith

-- a nonce that is kept, as a value that isn't below another
record Keeps (kept : Kept) (pair : Pair) (nonce : ℕ) : Type 0 where
  value : ℕ
  is_alone : kept_at kept pair ≡ Some value ∷ []
  above : nonce ≤ value

keeps : (by : ℕ) (copy : List KeptNonce) (kept : Kept) (pair : Pair) (nonce : ℕ) → KeepsRaised by copy kept pair → IsWithin by copy pair nonce → Keeps kept pair nonce
keeps by copy kept pair nonce has within =
    let k : KeptNonce = has.1.0 in
    let is_nonce : nonce ≤ greatest k.pair.kind = subst (λ (p : Pair). nonce ≤ greatest p.kind) (sym has.1.2) within.is_nonce in
    record {
      value = (raised by k).nonce;
      is_alone = has.2 ∙ ap (λ (v : Option ℕ). v ∷ []) has.1.3;
      above = reached nonce by (greatest k.pair.kind) k.nonce (within.near k has.1.1 has.1.2) is_nonce;
    }

kept_of : (by : ℕ) (copy : List KeptNonce) (kept : Kept) → KeepsAllRaised by copy kept → (pair : Pair) (nonce : ℕ) → IsWithin by copy pair nonce → Keeps kept pair nonce
kept_of by copy kept all pair nonce within =
    keeps by copy kept pair nonce (subst (λ (p : Pair). KeepsRaised by copy kept p) within.has.2 (All-contains (λ (k : KeptNonce). KeepsRaised by copy kept k.pair) copy within.has.0 all within.has.1)) within

pub keeps_at_least : KeepsAtLeastWhatWasAccepted
keeps_at_least by copy kept all pair nonce within v has =
    let it : Keeps kept pair nonce = kept_of by copy kept all pair nonce within in
    subst (λ (v : Option ℕ). nonce ≤ number v) (alone (Some it.value) v (subst (λ (vs : List (Option ℕ)). Contains vs v) it.is_alone has)) it.above

too_low : (nonce value : ℕ) (base : Option ℕ) → Some value ≡ base → nonce ≤ value → IsBelow base nonce → ⊥
too_low nonce value base is above below =
    let under : value < nonce = subst (λ (b : Option ℕ). IsBelow b nonce) (sym is) below in
    omega (arith, under, above)

pub refuses : RefusesWhatWasAccepted
refuses by copy store honest all pair nonce within jump fresh =
    let it : Keeps store.kept pair nonce = kept_of by copy store.kept all pair nonce within in
    let has : Contains (kept_at store.kept pair) fresh.0 = fresh.1.1 honest in
    too_low nonce it.value fresh.0 (alone (Some it.value) fresh.0 (subst (λ (vs : List (Option ℕ)). Contains vs fresh.0) it.is_alone has)) it.above fresh.2

stays : (by : ℕ) (nonces : List KeptNonce) (before : Kept) → AreKept nonces before → (pair : Pair) (bound : ℕ) → NoneBelow bound (kept_at before pair) → (v : Option ℕ) → Contains (kept_at before pair) v ⊎ IsRaised by nonces pair v → bound ≤ number v
stays by nonces before are pair bound below v (inl was) = below v was
stays by nonces before are pair bound below v (inr it) =
    let k : KeptNonce = it.0 in
    let was : Contains (kept_at before pair) (Some k.nonce) = subst (λ (p : Pair). Contains (kept_at before p) (Some k.nonce)) it.2 (All-contains (λ (j : KeptNonce). Contains (kept_at before j.pair) (Some j.nonce)) nonces k are it.1) in
    let low : bound ≤ k.nonce = below (Some k.nonce) was in
    let high : bound ≤ (raised by k).nonce = omega (arith, low, not_lowered by (greatest k.pair.kind) k.nonce) in
    subst (λ (v : Option ℕ). bound ≤ number v) (sym it.3) high

pub lowers : LowersNothing
lowers by nonces before after are each pair bound below v has = stays by nonces before are pair bound below v (each pair v has)

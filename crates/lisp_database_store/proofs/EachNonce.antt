-- The greater nonces, kept one after the other.
use Rattle.std.proofs.Common.{◌≡◌, ℕ, ◌+◌, ◌<◌, ◌≤◌, List, [], ◌∷◌, ◌++◌, length, get_or, take, Option, Result, Ok, Err, refl, sym, ap, subst, ◌∙◌, add-one}
use Rattle.std.specs.Prelude.{OnOk}
use Rattle.std.proofs.lemmas.List.{take_all}
use Rattle.std.proofs.Math.Seq.{take-suc}
use Rattle.lisp_store.specs.declared.kept_nonce.KeptNonce.{KeptNonce}
use Rattle.lisp_database_store.specs.Meaning.{Meaning}
use Rattle.lisp_database_store.specs.Table.{IsOpen, SavesGreatest, SavesEach, Begins, Commits, TakesAll}

module _ {T : Type 0} (means : Meaning T) where
  one_more : (old middle new : Option T) (nonces : List KeptNonce) (kept : KeptNonce) → SavesEach means old middle nonces → SavesGreatest means middle new kept.pair kept.nonce
      → SavesEach means old new (nonces ++ kept ∷ [])
  one_more old middle new [] kept each saved = (new, subst (λ t. SavesGreatest means t new kept.pair kept.nonce) each saved, refl)
  one_more old middle new (n ∷ nonces) kept each saved = (each.0, each.1, one_more each.0 middle new nonces kept each.2 saved)

  pub step : (old middle new : Option T) (nonces : List KeptNonce) (i : ℕ) (d : KeptNonce) → i < length nonces → SavesEach means old middle (take i nonces)
      → SavesGreatest means middle new (get_or nonces i d).pair (get_or nonces i d).nonce → SavesEach means old new (take (i + 1) nonces)
  step old middle new nonces i d low each saved =
      let taken : take (i + 1) nonces ≡ take i nonces ++ get_or nonces i d ∷ [] = ap (λ n. take n nonces) (add-one i) ∙ take-suc nonces i d low in
      subst (SavesEach means old new) (sym taken) (one_more old middle new (take i nonces) (get_or nonces i d) each saved)

  -- behind the last each is kept, and a commit that is done commits what was begun
  pub ends : {V E : Type 0} (r : Result V E) (old saved new : Option T) (nonces : List KeptNonce) (i : ℕ) → length nonces ≤ i
      → (begun : Option T) × Begins means old begun × SavesEach means begun saved (take i nonces) → OnOk r (Commits means saved new) → OnOk r (IsOpen new means.is_committed)
      → OnOk r (TakesAll means old new nonces)
  ends (Err e) old saved new nonces i high so_far commits settled = tt
  ends (Ok v) old saved new nonces i high so_far commits settled = record {
    begun = so_far.0;
    saved = saved;
    begins = so_far.1;
    each = subst (SavesEach means so_far.0 saved) (take_all i nonces high) so_far.2;
    commits = commits;
    settled = settled;
  }

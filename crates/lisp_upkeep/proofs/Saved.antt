-- What one more save leaves of a store whose nonces are being raised.
use Rattle.std.proofs.Common.{◌≡◌, ◌≢◌, ◌⊎◌, ℕ, zero, suc, ◌+◌, ◌<◌, ◌≤◌, false, true≢false, List, [], ◌∷◌, length, get_or, take, Option, Some, refl, sym, ap, ◌∙◌, subst, inl, inr, arith}
use Rattle.std.specs.Prelude.{IsTrue}
use Rattle.std.specs.List.{All, Contains}
use Rattle.std.specs.Ordering.{is_eq}
use Rattle.std.specs.declared.cmp.Ordering.{Ordering}
use Rattle.std.specs.declared.cmp.Ordering.TheVariants.{Less, Equal, Greater}
use Rattle.std.proofs.lemmas.List.{take_all}
use Rattle.std.proofs.lemmas.Cmp.{tied_itself}
use Rattle.std.proofs.lemmas.List.Elements.{All-nil, All-more, All-weaker, Contains-append_cases, Contains-get_or}
use Rattle.lisp_nonces.specs.declared.pair.Pair.{Pair}
use Rattle.lisp_nonces.specs.Pair.{pair_cmp}
use Rattle.lisp_nonces.specs.Kept.{Kept, kept_at, SameElsewhere, InDoubt}
use Rattle.lisp_nonces.specs.Store.{StoreState, Proceeds}
use Rattle.lisp_nonces.proofs.Pairs.{pair_total, same_pair}
use Rattle.lisp_store.specs.declared.kept_nonce.KeptNonce.{KeptNonce}
use Rattle.lisp_upkeep.specs.Raising.{raised, IsRaised, KeepsRaised, KeepsAllRaised, KeepsOrRaises}

differ : (p q : Pair) (o : Ordering) → pair_cmp p q ≡ o → is_eq o ≡ false → p ≢ q
differ p q o is off same =
    let tie : o ≡ Equal = sym is ∙ ap (λ (x : Pair). pair_cmp x q) same ∙ tied_itself pair_total q in
    true≢false (sym (ap is_eq tie) ∙ off)

decided : (p q : Pair) (o : Ordering) → pair_cmp p q ≡ o → (p ≡ q) ⊎ (p ≢ q)
decided p q Less is = inr (differ p q Less is refl)
decided p q Equal is = inl (same_pair p q is)
decided p q Greater is = inr (differ p q Greater is refl)

same_or_other : (p q : Pair) → (p ≡ q) ⊎ (p ≢ q)
same_or_other p q = decided p q (pair_cmp p q) refl

alone_at : {X : Type 0} (x v : X) (k : ℕ) → k < 1 → get_or (x ∷ []) k v ≡ v → x ≡ v
alone_at x v zero within is = is
alone_at x v (suc k) within is = absurd (omega (arith, within))

-- what one value has is that value
pub alone : {X : Type 0} (x v : X) → Contains (x ∷ []) v → x ≡ v
alone x v has = alone_at x v has.0 has.1 has.2

pub proceeds_itself : (s : StoreState) → Proceeds s s
proceeds_itself s = record { honest = refl; obedient = refl; fate = refl; count = omega arith; quiet = λ quiet. (quiet, refl) }

pub proceeds_on : (a b c : StoreState) → Proceeds a b → Proceeds b c → Proceeds a c
proceeds_on a b c first second = record {
  honest = second.honest ∙ first.honest;
  obedient = second.obedient ∙ first.obedient;
  fate = second.fate ∙ first.fate;
  count = omega (arith, first.count, second.count);
  quiet = λ quiet. ((second.quiet (first.quiet quiet).0).0, (second.quiet (first.quiet quiet).0).1 ∙ (first.quiet quiet).1);
}

-- the nonces so far are raised
pub record Raising (by : ℕ) (nonces so_far : List KeptNonce) (old new : StoreState) : Type 0 where
  pub done : IsTrue old.is_honest → All (λ k. KeepsRaised by nonces new.kept k.pair) so_far
  pub each : IsTrue old.is_honest → KeepsOrRaises by nonces old.kept new.kept
  pub proceeds : Proceeds old new

pub begins : (by : ℕ) (nonces : List KeptNonce) (s : StoreState) → Raising by nonces [] s s
begins by nonces s = record { done = λ _. All-nil (λ k. KeepsRaised by nonces s.kept k.pair); each = λ _ q v has. inl has; proceeds = proceeds_itself s }

module _ (by : ℕ) (nonces : List KeptNonce) (k : KeptNonce) (listed : Contains nonces k) where
  abbrev value : Option ℕ
  value = Some (raised by k).nonce

  still : (mid new : Kept) → kept_at new k.pair ≡ value ∷ [] → SameElsewhere mid new k.pair → (q : Pair) → KeepsRaised by nonces mid q → (q ≡ k.pair) ⊎ (q ≢ k.pair) → KeepsRaised by nonces new q
  still mid new saved others q was (inl same) = (value, (k, listed, sym same, refl), ap (λ (p : Pair). kept_at new p) same ∙ saved)
  still mid new saved others q was (inr differ) = (was.0, was.1, others q differ ∙ was.2)

  saved_from : (old mid new : Kept) → KeepsOrRaises by nonces old mid → kept_at new k.pair ≡ value ∷ [] → SameElsewhere mid new k.pair → (q : Pair) (v : Option ℕ) → Contains (kept_at new q) v → (q ≡ k.pair) ⊎ (q ≢ k.pair) → Contains (kept_at old q) v ⊎ IsRaised by nonces q v
  saved_from old mid new each saved others q v has (inl same) = inr (k, listed, sym same, sym (alone value v (subst (λ (vs : List (Option ℕ)). Contains vs v) (ap (λ (p : Pair). kept_at new p) same ∙ saved) has)))
  saved_from old mid new each saved others q v has (inr differ) = each q v (subst (λ (vs : List (Option ℕ)). Contains vs v) (others q differ) has)

  added : (old mid : Kept) → KeepsOrRaises by nonces old mid → (q : Pair) → q ≡ k.pair → (v : Option ℕ) → Contains (kept_at mid k.pair) v ⊎ Contains (value ∷ []) v → Contains (kept_at old q) v ⊎ IsRaised by nonces q v
  added old mid each q same v (inl has) = each q v (subst (λ (p : Pair). Contains (kept_at mid p) v) (sym same) has)
  added old mid each q same v (inr new) = inr (k, listed, sym same, sym (alone value v new))

  doubted : (old mid new : Kept) → KeepsOrRaises by nonces old mid → (q : Pair) → q ≡ k.pair → (v : Option ℕ) → Contains (kept_at new k.pair) v → InDoubt (kept_at mid k.pair) (kept_at new k.pair) (raised by k).nonce → Contains (kept_at old q) v ⊎ IsRaised by nonces q v
  doubted old mid new each q same v has (inl as_it_was) = added old mid each q same v (inl (subst (λ (vs : List (Option ℕ)). Contains vs v) as_it_was has))
  doubted old mid new each q same v has (inr more) = added old mid each q same v (Contains-append_cases (kept_at mid k.pair) (value ∷ []) v (subst (λ (vs : List (Option ℕ)). Contains vs v) more has))

  unsaved : (old mid new : Kept) → KeepsOrRaises by nonces old mid → InDoubt (kept_at mid k.pair) (kept_at new k.pair) (raised by k).nonce → SameElsewhere mid new k.pair → (q : Pair) (v : Option ℕ) → Contains (kept_at new q) v → (q ≡ k.pair) ⊎ (q ≢ k.pair) → Contains (kept_at old q) v ⊎ IsRaised by nonces q v
  unsaved old mid new each doubt others q v has (inl same) = doubted old mid new each q same v (subst (λ (p : Pair). Contains (kept_at new p) v) same has) doubt
  unsaved old mid new each doubt others q v has (inr differ) = each q v (subst (λ (vs : List (Option ℕ)). Contains vs v) (others q differ) has)

-- one more nonce is saved
pub goes_on : (by : ℕ) (nonces : List KeptNonce) (i : ℕ) (d r : KeptNonce) (old mid new : StoreState) → i < length nonces → r ≡ raised by (get_or nonces i d) → Raising by nonces (take i nonces) old mid
    → (IsTrue mid.is_honest → kept_at new.kept (get_or nonces i d).pair ≡ Some r.nonce ∷ []) → (IsTrue mid.is_honest → SameElsewhere mid.kept new.kept (get_or nonces i d).pair) → Proceeds mid new
    → Raising by nonces (take (i + 1) nonces) old new
goes_on by nonces i d r old mid new within is so_far saves others proceeds =
    let k : KeptNonce = get_or nonces i d in
    let listed : Contains nonces k = Contains-get_or nonces i d within in
    let honest : IsTrue old.is_honest → IsTrue mid.is_honest = λ h. subst IsTrue (sym so_far.proceeds.honest) h in
    let saved : IsTrue mid.is_honest → kept_at new.kept k.pair ≡ Some (raised by k).nonce ∷ [] = λ h. saves h ∙ ap (λ (x : KeptNonce). Some x.nonce ∷ []) is in
    record {
      done = λ h.
          All-more (λ (j : KeptNonce). KeepsRaised by nonces new.kept j.pair) nonces i d within
          (All-weaker (λ (j : KeptNonce). KeepsRaised by nonces mid.kept j.pair) (λ (j : KeptNonce). KeepsRaised by nonces new.kept j.pair) (λ j was. still by nonces k listed mid.kept new.kept (saved (honest h)) (others (honest h)) j.pair was (same_or_other j.pair k.pair)) (take i nonces) (so_far.done h))
          (Some (raised by k).nonce, (k, listed, refl, refl), saved (honest h));
      each = λ h q v has. saved_from by nonces k listed old.kept mid.kept new.kept (so_far.each h) (saved (honest h)) (others (honest h)) q v has (same_or_other q k.pair);
      proceeds = proceeds_on old mid new so_far.proceeds proceeds;
    }

-- one more isn't, or it is open whether it is
pub each_stops : (by : ℕ) (nonces so_far : List KeptNonce) (i : ℕ) (d r : KeptNonce) (old mid new : StoreState) → i < length nonces → r ≡ raised by (get_or nonces i d) → Raising by nonces so_far old mid
    → (IsTrue mid.is_honest → InDoubt (kept_at mid.kept (get_or nonces i d).pair) (kept_at new.kept (get_or nonces i d).pair) r.nonce) → (IsTrue mid.is_honest → SameElsewhere mid.kept new.kept (get_or nonces i d).pair)
    → IsTrue old.is_honest → KeepsOrRaises by nonces old.kept new.kept
each_stops by nonces so_far i d r old mid new within is raising doubts others h =
    let k : KeptNonce = get_or nonces i d in
    let listed : Contains nonces k = Contains-get_or nonces i d within in
    let honest : IsTrue mid.is_honest = subst IsTrue (sym raising.proceeds.honest) h in
    let doubt : InDoubt (kept_at mid.kept k.pair) (kept_at new.kept k.pair) (raised by k).nonce = subst (λ (x : KeptNonce). InDoubt (kept_at mid.kept k.pair) (kept_at new.kept k.pair) x.nonce) is (doubts honest) in
    λ q v has. unsaved by nonces k listed old.kept mid.kept new.kept (raising.each h) doubt (others honest) q v has (same_or_other q k.pair)

-- all are saved
pub all_raised : (by : ℕ) (nonces : List KeptNonce) (i : ℕ) (old new : StoreState) → length nonces ≤ i → Raising by nonces (take i nonces) old new → IsTrue old.is_honest → KeepsAllRaised by nonces new.kept
all_raised by nonces i old new le raising h = subst (λ (ks : List KeptNonce). All (λ k. KeepsRaised by nonces new.kept k.pair) ks) (take_all i nonces le) (raising.done h)

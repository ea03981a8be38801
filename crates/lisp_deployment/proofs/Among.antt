-- What is among a list, in its order there.
use Rattle.std.proofs.Common.{◌≡◌, ◌⊎◌, inl, inr, List, [], ◌∷◌, ◌++◌, refl, sym, subst, ◌∙◌}
use Rattle.std.specs.List.{Contains}
use Rattle.lisp_model.proofs.ListLemmas.{at_head, in_tail, head_or_tail, in_none}
use Rattle.lisp_deployment.specs.Deployment.{IsAmong}

module _ {X : Type 0} where
  pub among_itself : (zs : List X) → IsAmong zs zs
  among_itself [] = tt
  among_itself (z ∷ zs) = inl (refl, among_itself zs)

  pub among_more : (xs ys : List X) → IsAmong xs (xs ++ ys)
  among_more [] ys = tt
  among_more (x ∷ xs) ys = inl (refl, among_more xs ys)

  pub among_after : (us zs : List X) (y : X) → IsAmong us zs → IsAmong us (y ∷ zs)
  among_after [] zs y among = tt
  among_after (u ∷ us) zs y among = inr among

  pub among_front : (us ys zs : List X) → IsAmong us zs → IsAmong us (ys ++ zs)
  among_front us [] zs among = among
  among_front us (y ∷ ys) zs among = among_after us (ys ++ zs) y (among_front us ys zs among)

  pub among_both : (xs ys us vs : List X) → IsAmong xs ys → IsAmong us vs → IsAmong (xs ++ us) (ys ++ vs)
  among_both [] ys us vs among more = among_front us ys vs more
  among_both (x ∷ xs) [] us vs among more = absurd among
  among_both (x ∷ xs) (y ∷ ys) us vs (inl (same, among)) more = inl (same, among_both xs ys us vs among more)
  among_both (x ∷ xs) (y ∷ ys) us vs (inr among) more = inr (among_both (x ∷ xs) ys us vs among more)

  pub contains_among : (xs ys : List X) (v : X) → IsAmong xs ys → Contains xs v → Contains ys v
  contains_among [] ys v among has = absurd (in_none v has)
  contains_among (x ∷ xs) [] v among has = absurd among
  contains_among (x ∷ xs) (y ∷ ys) v (inr among) has = in_tail y ys v (contains_among (x ∷ xs) ys v among has)
  contains_among (x ∷ xs) (y ∷ ys) v (inl (same, among)) has = by (head_or_tail x xs v has) (λ later. contains_among xs ys v among later)
    where
      by : (v ≡ x) ⊎ Contains xs v → (Contains xs v → Contains ys v) → Contains (y ∷ ys) v
      by (inl is) go = subst (λ z. Contains (y ∷ ys) z) (same ∙ sym is) (at_head y ys)
      by (inr later) go = in_tail y ys v (go later)

-- Which rows a query shows, in some order.
use Rattle.std.proofs.Common.{◌≡◌, inl, inr, List, [], ◌∷◌, map, refl, sym, ap, subst, ◌∙◌}
use Rattle.std.specs.List.Sorted.{IsPermutation}
use Rattle.std.proofs.lemmas.List.Sorted.{Contains-permutation, IsPermutation-sym}
use Rattle.sqlite.specs.Order.{Row}
use Rattle.sqlite.specs.Term.{Env}
use Rattle.sqlite.specs.Query.{Query, Output, output}
use Rattle.sqlite_rules.specs.Lists.{Has}
use Rattle.sqlite_rules.proofs.ListLemmas.{has_contained, contains_had}

pub has_mapped : {X Y : Type 0} (f : X → Y) (xs : List X) (y : Y) → Has (map f xs) y → (x : X) × Has xs x × (y ≡ f x)
has_mapped f [] y h = absurd h
has_mapped f (x ∷ xs) y (inl same) = (x, inl refl, same)
has_mapped f (x ∷ xs) y (inr later) = let it = has_mapped f xs y later in (it.0, inr it.1, it.2)

pub has_image : {X Y : Type 0} (f : X → Y) (xs : List X) (x : X) → Has xs x → Has (map f xs) (f x)
has_image f [] x h = absurd h
has_image f (y ∷ xs) x (inl same) = inl (ap f same)
has_image f (y ∷ xs) x (inr later) = inr (has_image f xs x later)

has_shuffled : {X : Type 0} (xs ys : List X) (x : X) → IsPermutation xs ys → Has xs x → Has ys x
has_shuffled xs ys x same h = has_contained ys x (Contains-permutation xs ys x same (contains_had xs x h))

-- what it shows of each of these rows
module _ (q : Query) (env : Row → Env) (rows answer : List Row) (kept ordered : List Output) (is : kept ≡ map (output q) (map env rows)) (same : IsPermutation kept ordered)
    (shown : answer ≡ map (λ (o : Output). o.1) ordered) where
  abbrev pub told : Row → Row
  told row = (output q (env row)).1

  pub is_of_one : (row : Row) → Has answer row → (r : Row) × Has rows r × (row ≡ told r)
  is_of_one row h =
      let out = has_mapped (λ (o : Output). o.1) ordered row (subst (λ rows. Has rows row) shown h) in
      let was = has_shuffled ordered kept out.0 (IsPermutation-sym kept ordered same) out.1 in
      let made = has_mapped (output q) (map env rows) out.0 (subst (λ outs. Has outs out.0) is was) in
      let one = has_mapped env rows made.0 made.1 in
      (one.0, one.1, out.2 ∙ ap (λ (o : Output). o.1) (made.2 ∙ ap (output q) one.2))

  pub each_is : (r : Row) → Has rows r → Has answer (told r)
  each_is r h =
      let made = has_image (output q) (map env rows) (env r) (has_image env rows r h) in
      let out = has_shuffled kept ordered (output q (env r)) same (subst (λ outs. Has outs (output q (env r))) (sym is) made) in
      subst (λ rows. Has rows (told r)) (sym shown) (has_image (λ (o : Output). o.1) ordered (output q (env r)) out)

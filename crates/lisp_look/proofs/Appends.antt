-- The lines of records, one after the other.
use Rattle.std.proofs.Common.{◌≡◌, ℕ, ◌+◌, ◌<◌, List, [], ◌∷◌, ◌++◌, length, get_or, take, sym, ap, ◌∙◌}
use Rattle.std.specs.List.{flat_map}
use Rattle.std.proofs.lemmas.List.{flat_map_more, take_more}

-- the text of one more element
pub one_more : {X : Type 0} (shown : X → List ℕ) (head : List ℕ) (xs : List X) (i : ℕ) (x : X) (before after : List ℕ) → i < length xs → x ≡ get_or xs i x → before ≡ head ++ flat_map shown (take i xs) → after ≡ before ++ shown x
    → after ≡ head ++ flat_map shown (take (i + 1) xs)
one_more {X = X} shown head xs i x before after inside here so_far more =
    let next : take i xs ++ x ∷ [] ≡ take (i + 1) xs = ap (λ (y : X). take i xs ++ y ∷ []) here ∙ sym (take_more xs i x inside) in
    more ∙ ap (λ (t : List ℕ). t ++ shown x) so_far ∙ flat_map_more shown head (take i xs) x ∙ ap (λ (ys : List X). head ++ flat_map shown ys) next

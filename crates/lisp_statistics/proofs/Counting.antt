-- One more row.
use Rattle.std.proofs.Common.{◌≡◌, ℕ, ◌+◌, ◌-◌, ◌<◌, List, ◌++◌, length, get_or, take, refl, sym, ap, ◌∙◌, append_assoc}
use Rattle.std.specs.List.{flat_map}
use Rattle.std.proofs.lemmas.List.{flat_map_more, take_more}
use Rattle.std.proofs.lemmas.Map.Made.{is_some-lookup}

pub ruleset steps = (append_assoc)

pub ruleset among = (is_some-lookup)

-- the text of one more element
pub one_more_here : {X : Type 0} (shown : X → List ℕ) (head : List ℕ) (xs : List X) (i : ℕ) (x : X) (before after : List ℕ) → i < length xs → x ≡ get_or xs i x → before ≡ head ++ flat_map shown (take i xs) → after ≡ before ++ shown x
    → after ≡ head ++ flat_map shown (take (i + 1) xs)
one_more_here {X = X} shown head xs i x before after within here so_far more =
    more ∙ (λ j. so_far j ++ shown (here j)) ∙ flat_map_more shown head (take i xs) (get_or xs i x) ∙ ap (λ (ys : List X). head ++ flat_map shown ys) (sym (take_more xs i x within))

-- the lines of the routers behind their head, and then those of what wasn't heard
pub routers_and_unheard : (text before first head lines counted unheard : List ℕ) → text ≡ before ++ unheard → before ≡ first ++ counted → first ≡ head → counted ≡ lines → text ≡ head ++ lines ++ unheard
routers_and_unheard text before first head lines counted unheard last routers begun same =
    last ∙ ap (λ (t : List ℕ). t ++ unheard) (routers ∙ ap (λ (t : List ℕ). t ++ counted) begun ∙ ap (λ (t : List ℕ). head ++ t) same)

-- A list behind another, an element more of it at a time.
use Rattle.std.proofs.Common.{◌≡◌, ◌<◌, ◌+◌, ◌∙◌, ℕ, List, [], ◌∷◌, ◌++◌, length, get_or, take, ap, sym, append_assoc}
use Rattle.std.proofs.lemmas.List.{take_more}

pub one_more_behind : {X : Type 0} (front xs : List X) (i : ℕ) (d : X) → i < length xs → (front ++ take i xs) ++ get_or xs i d ∷ [] ≡ front ++ take (i + 1) xs
one_more_behind front xs i d lt = append_assoc front (take i xs) (get_or xs i d ∷ []) ∙ ap (λ ys. front ++ ys) (sym (take_more xs i d lt))

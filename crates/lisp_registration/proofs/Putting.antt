-- A list whose front is written element by element.
use Rattle.std.proofs.Common.{◌≡◌, ℕ, ◌+◌, ◌<◌, ◌≤◌, List, [], ◌∷◌, ◌++◌, length, map, take, drop, get_or, set, sym, ap, ◌∙◌, append_assoc, arith}
use Rattle.std.proofs.lemmas.List.{drop_more, length-map, length-take-le, map_more, set_at}

-- one more is written
pub front_more : {X Y : Type 0} (f : X → Y) (xs : List X) (old now : List Y) (i : ℕ) (d : X) (e : Y) → i < length xs → length xs ≤ length old → now ≡ map f (take i xs) ++ drop i old
    → set now i (f (get_or xs i d)) ≡ map f (take (i + 1) xs) ++ drop (i + 1) old
front_more f xs old now i d e lt le so_far =
    let front : List _ = map f (take i xs) in
    let long : length front ≡ i = length-map (take i xs) f ∙ length-take-le i xs (omega (arith, lt)) in
    let parts : now ≡ front ++ get_or old i e ∷ drop (i + 1) old = so_far ∙ ap (λ (ys : List _). front ++ ys) (drop_more old i e (omega (arith, lt, le))) in
    ap (λ (ys : List _). set ys i (f (get_or xs i d))) parts ∙ set_at front (get_or old i e) (drop (i + 1) old) (f (get_or xs i d)) i long
    ∙ sym (append_assoc front (f (get_or xs i d) ∷ []) (drop (i + 1) old)) ∙ ap (λ (ys : List _). ys ++ drop (i + 1) old) (sym (map_more f xs i d lt))

-- Words, a space behind each.
use Rattle.std.proofs.Common.{◌≡◌, ℕ, ◌+◌, ◌<◌, List, [], ◌∷◌, ◌++◌, length, get_or, take, Bor, sym, ap, ◌∙◌}
use Rattle.std.proofs.lemmas.List.{map-append, take_more, flat_map_more}
use Rattle.lisp_script.specs.Words.{texts, spaced}

-- one more word
pub one_more : (words : List (Bor (List ℕ))) (i : ℕ) (d : Bor (List ℕ)) (before after : List ℕ) → i < length words
    → before ≡ spaced (texts (take i words)) → after ≡ before ++ ((get_or words i d).now ++ 32 ∷ []) → after ≡ spaced (texts (take (i + 1) words))
one_more words i d before after inside so_far more =
    more ∙ ap (λ (t : List ℕ). t ++ ((get_or words i d).now ++ 32 ∷ [])) so_far ∙ flat_map_more (λ (w : List ℕ). w ++ 32 ∷ []) [] (texts (take i words)) (get_or words i d).now
    ∙ ap spaced (sym (map-append (λ (w : Bor (List ℕ)). w.now) (take i words) (get_or words i d ∷ []))) ∙ ap (λ (ws : List (Bor (List ℕ))). spaced (texts ws)) (sym (take_more words i d inside))

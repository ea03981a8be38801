-- Appending to a text.
use Rattle.std.proofs.Common.{◌≡◌, ℕ, ◌+◌, ◌<◌, List, [], ◌∷◌, ◌++◌, length, get_or, take, Result, Ok, Err, sym, ap, ◌∙◌, append_assoc}
use Rattle.std.specs.Prelude.{OnOk}
use Rattle.std.specs.List.{flat_map}
use Rattle.std.proofs.lemmas.Fmt.{hex_byte}
use Rattle.std.proofs.lemmas.List.{append-nil, flat_map_more, take_more}

pub ruleset steps = (append_assoc, append-nil)

pub ruleset octets = (hex_byte, append_assoc)

-- the text of one more element
pub one_more : {X : Type 0} (shown : X → List ℕ) (head : List ℕ) (xs : List X) (i : ℕ) (x : X) (before after : List ℕ) → i < length xs → x ≡ get_or xs i x → before ≡ head ++ flat_map shown (take i xs) → after ≡ before ++ shown x
    → after ≡ head ++ flat_map shown (take (i + 1) xs)
one_more {X = X} shown head xs i x before after inside here so_far more =
    let next : take i xs ++ x ∷ [] ≡ take (i + 1) xs = ap (λ (y : X). take i xs ++ y ∷ []) here ∙ sym (take_more xs i x inside) in
    more ∙ ap (λ (t : List ℕ). t ++ shown x) so_far ∙ flat_map_more shown head (take i xs) x ∙ ap (λ (ys : List X). head ++ flat_map shown ys) next

-- three texts, one after the other
pub three : {X E : Type 0} (result : Result X E) (old first second new a b c : List ℕ) → first ≡ old ++ a → second ≡ first ++ b → OnOk result (new ≡ second ++ c) → OnOk result (new ≡ old ++ (a ++ (b ++ c)))
three (Ok x) old first second new a b c one two last =
    last ∙ ap (λ (t : List ℕ). t ++ c) (two ∙ ap (λ (t : List ℕ). t ++ b) one) ∙ append_assoc (old ++ a) b c ∙ append_assoc old a (b ++ c)
three (Err e) old first second new a b c one two last = tt

-- two texts, one after the other
pub two : (old first new a b : List ℕ) → first ≡ old ++ a → new ≡ first ++ b → new ≡ old ++ (a ++ b)
two old first new a b one last = last ∙ ap (λ (t : List ℕ). t ++ b) one ∙ append_assoc old a b

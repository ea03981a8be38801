-- What is taken of words, and what is written of a list, one more at a time.
use Rattle.std.proofs.Common.{◌≡◌, ℕ, ◌+◌, ◌<◌, Bool, true, false, not, ◌&&◌, ◌||◌, true≢false, List, [], ◌∷◌, ◌++◌, map, length, get_or, take, fold, Option, Bor, refl, sym, ap, ◌∙◌}
use Rattle.std.specs.List.{flat_map, list_any}
use Rattle.std.specs.Str.{bytes_eq}
use Rattle.std.proofs.lemmas.List.{flat_map_more, map_more}
use Rattle.std.proofs.lemmas.List.Sums.{fold_push}
use Rattle.lisp_json.specs.Told.{ToldValue, take_word}
use Rattle.lisp_json.specs.Views.{member_view}
use Rattle.lisp_json.specs.Words.{texts}
use Rattle.lisp_json.specs.declared.told.Member.{Member}

-- a member has the name
has_name : (name : List ℕ) (members : List Member) → list_any (λ m. bytes_eq name m.name.now) members ≡ list_any (λ m. bytes_eq name m.name) (map member_view members)
has_name name [] = refl
has_name name (m ∷ members) = ap (λ (b : Bool). bytes_eq name m.name.now || b) (has_name name members)

-- a key whose name no member has
pub is_free : (key found : Bool) (word : List ℕ) (members : List Member) → true ≡ key → found ≡ list_any (λ m. bytes_eq word m.name.now) members
    → not found ≡ (key && not (list_any (λ m. bytes_eq word m.name) (map member_view members)))
is_free true found word members key is = ap not (is ∙ has_name word members)
is_free false found word members key is = absurd (true≢false key)

-- one more word
pub take_more_words : (start : ToldValue × Option (List ℕ)) (words : List (Bor (List ℕ))) (i : ℕ) (d : Bor (List ℕ)) (before after : ToldValue × Option (List ℕ)) → i < length words
    → before ≡ fold take_word start (texts (take i words)) → after ≡ take_word before (get_or words i d).now → after ≡ fold take_word start (texts (take (i + 1) words))
take_more_words start words i d before after inside so_far more =
    let all : texts (take (i + 1) words) ≡ texts (take i words) ++ (get_or words i d).now ∷ [] = map_more (λ (w : Bor (List ℕ)). w.now) words i d inside in
    more ∙ ap (λ (s : ToldValue × Option (List ℕ)). take_word s (get_or words i d).now) so_far
    ∙ sym (ap (λ (ws : List (List ℕ)). fold take_word start ws) all ∙ fold_push take_word start (texts (take i words)) (get_or words i d).now)

-- one more text of a list
pub write_more : {X Y : Type 0} (f : Y → List ℕ) (view : X → Y) (xs : List X) (i : ℕ) (d : X) (first before after : List ℕ) → i < length xs
    → before ≡ first ++ flat_map f (map view (take i xs)) → after ≡ before ++ f (view (get_or xs i d)) → after ≡ first ++ flat_map f (map view (take (i + 1) xs))
write_more {X} {Y} f view xs i d first before after inside so_far more =
    more ∙ ap (λ (t : List ℕ). t ++ f (view (get_or xs i d))) so_far ∙ flat_map_more f first (map view (take i xs)) (view (get_or xs i d))
    ∙ ap (λ (ys : List Y). first ++ flat_map f ys) (sym (map_more view xs i d inside))

-- The objects of lines.
use Rattle.std.proofs.Common.{◌≡◌, ℕ, List, [], ◌∷◌, ◌++◌, Option, Bor, refl, sym, ap, ◌∙◌, append_assoc, subst}
use Rattle.std.proofs.lemmas.List.{map_push}
use Rattle.lisp_json.specs.Object.{AreObjects, IsObjectOfKind, object_text}
use Rattle.lisp_json.specs.Views.{PutsObject}
use Rattle.lisp_json.specs.Words.{number_in, texts}
use Rattle.lisp_json.specs.Told.{ExplainedValue, IsExplainedIf, ToldValue, take_names, take_number, with_words}

-- one more object
pub one_more : (lines : List (List ℕ)) (line old new : List ℕ) → AreObjects lines old → PutsObject line old new → AreObjects (lines ++ line ∷ []) new
unfolding AreObjects
one_more [] line old new none (object, is, more) = (object, [], is, refl, more ∙ ap (λ (t : List ℕ). t ++ object ++ 10 ∷ []) none)
one_more (first ∷ lines) line old new (one, others, is, are, parts) (object, last, more) =
    let behind = one_more lines line others (others ++ object ++ 10 ∷ []) are (object, last, refl) in
    let parted = more ∙ ap (λ (t : List ℕ). t ++ object ++ 10 ∷ []) parts ∙ ap (λ (t : List ℕ). t ++ 10 ∷ []) (append_assoc one (10 ∷ others) object) in
    (one, others ++ object ++ 10 ∷ [], is, behind, parted ∙ append_assoc one (10 ∷ others ++ object) (10 ∷ []))

-- behind the lines so far
pub one_more_text : (lines : List (Bor (List ℕ))) (line : Bor (List ℕ)) (old new : List ℕ) → AreObjects (texts lines) old → PutsObject line.now old new → AreObjects (texts (lines ++ line ∷ [])) new
one_more_text lines line old new are puts =
    subst (λ (ls : List (List ℕ)). AreObjects ls new) (sym (map_push (λ (w : Bor (List ℕ)). w.now) lines line)) (one_more (texts lines) line.now old new are puts)

-- what was told step by step
pub is_object : (kind : List ℕ) (words : List (List ℕ)) (explained : Option ExplainedValue) (named numbered told : ToldValue) (behind rest : List (List ℕ)) (text : List ℕ)
    → (named, behind) ≡ take_names kind words → IsExplainedIf (number_in kind behind) explained → (numbered, rest) ≡ take_number explained (named, behind) → told ≡ with_words numbered rest
    → text ≡ object_text kind told → IsObjectOfKind kind words text
is_object kind words explained named numbered told behind rest text names explains number others writes =
    let all : told ≡ with_words (take_number explained (take_names kind words)).0 (take_number explained (take_names kind words)).1 =
    others ∙ ap (λ (n : ToldValue × List (List ℕ)). with_words n.0 n.1) (number ∙ ap (λ (n : ToldValue × List (List ℕ)). take_number explained n) names) in
    (explained, subst (λ (n : ToldValue × List (List ℕ)). IsExplainedIf (number_in kind n.1) explained) names explains, writes ∙ ap (λ (t : ToldValue). object_text kind t) all)

-- Looking up and adding the places of names.
use Rattle.std.proofs.Common.{◌≡◌, ℕ, ◌+◌, Bool, true, false, cond, ◌||◌, List, [], ◌∷◌, ◌++◌, length, Option, Some, None, true≢false, refl, sym, ap, ◌∙◌}
use Rattle.std.specs.Prelude.{String, is_some}
use Rattle.std.specs.BTreeMap.{BTreeMap, IsEmpty, IsUnchanged, get_by_text}
use Rattle.std.specs.List.{position, position_from, list_any}
use Rattle.std.specs.Option.{option_or}
use Rattle.std.specs.Str.{bytes_eq}
use Rattle.std.proofs.lemmas.Iterator.Adapters.{position_from-zero}
use Rattle.std.proofs.lemmas.Slice.Eq.{bytes_eq-Decides}
use Rattle.lisp_policy.proofs.IndexLaws.{position-push}
use Rattle.lisp_sites.specs.Names.{ArePlaces}

there_from : {X : Type 0} (p : X → Bool) (xs : List X) (start : ℕ) → is_some (position_from p start xs) ≡ list_any p xs
there_from p [] start = refl
there_from p (x ∷ xs) start = either (p x) (there_from p xs (start + 1))
  where
    either : (b : Bool) → is_some (position_from p (start + 1) xs) ≡ list_any p xs → is_some (cond b (Some start) (position_from p (start + 1) xs)) ≡ (b || list_any p xs)
    either true later = refl
    either false later = later

-- an element that passes has a place where there is one
pub has_place : {X : Type 0} (p : X → Bool) (xs : List X) → is_some (position p xs) ≡ list_any p xs
has_place p xs = ap is_some (position_from-zero p xs) ∙ there_from p xs 0

is_none : {X : Type 0} (o : Option X) → is_some o ≡ false → o ≡ None
is_none None none = refl
is_none (Some x) none = absurd (true≢false none)

none_there : {X : Type 0} (p : X → Bool) (xs : List X) → list_any p xs ≡ false → position p xs ≡ None
none_there p xs none = is_none (position p xs) (has_place p xs ∙ none)

or_none : {X : Type 0} (o : Option X) → option_or o None ≡ o
or_none None = refl
or_none (Some x) = refl

module _ {X Y : Type 0} (name : X → List ℕ) where
  pub none_placed : (places : BTreeMap (String Y) ℕ) → IsEmpty places → ArePlaces places name []
  unfolding ArePlaces
  none_placed places empty n = rw empty refl

  pub is_placed : (places : BTreeMap (String Y) ℕ) (xs : List X) (n : List ℕ) → ArePlaces places name xs → get_by_text places n ≡ position (λ x. bytes_eq (name x) n) xs
  unfolding ArePlaces
  is_placed places xs n placed = placed n

  -- one more node, whose name none has, has its place
  pub one_more_placed : (old new : BTreeMap (String Y) ℕ) (xs : List X) (x : X) → ArePlaces old name xs → list_any (λ y. bytes_eq (name y) (name x)) xs ≡ false → ((n : List ℕ) → get_by_text new n ≡ cond (bytes_eq (name x) n) (Some (length xs)) (get_by_text old n)) → ArePlaces new name (xs ++ x ∷ [])
  unfolding ArePlaces
  one_more_placed old new xs x placed fresh sets n = sets n ∙ ap (cond (bytes_eq (name x) n) (Some (length xs))) (placed n) ∙ either (bytes_eq (name x) n) refl ∙ sym (position-push (λ y. bytes_eq (name y) n) xs x)
    where
      either : (same : Bool) → bytes_eq (name x) n ≡ same → cond same (Some (length xs)) (position (λ y. bytes_eq (name y) n) xs) ≡ option_or (position (λ y. bytes_eq (name y) n) xs) (cond same (Some (length xs)) None)
      either true same = let here : name x ≡ n = (bytes_eq-Decides (name x) n).0 same in rw (none_there (λ y. bytes_eq (name y) n) xs (rw here at fresh)) refl
      either false same = sym (or_none (position (λ y. bytes_eq (name y) n) xs))

  -- the same entries place the same nodes
  pub same_placed : (old new : BTreeMap (String Y) ℕ) (xs : List X) → IsUnchanged old new → ArePlaces old name xs → ArePlaces new name xs
  unfolding ArePlaces
  same_placed old new xs same placed n = rw same (placed n)

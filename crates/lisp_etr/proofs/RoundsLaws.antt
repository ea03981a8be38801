-- What is found among a router's rounds.
use Rattle.std.proofs.Common.{◌≡◌, ℕ, ◌<◌, Bool, is_some, List, [], ◌∷◌, map, position, get_or, length, Some, Option, refl, sym, ap, ◌∙◌}
use Rattle.std.specs.Option.{option_map}
use Rattle.std.proofs.lemmas.Option.{slice_get-get_or}
use Rattle.lisp_etr.specs.Rounds.{due_part, first_part}
use Rattle.lisp_etr.specs.declared.rounds.Rounds.{Rounds}
use Rattle.std.specs.List.{position_or_len}
use Rattle.std.proofs.lemmas.List.{length-map}

module _ {X Y : Type 0} (f : X → Y) (p : Y → Bool) where
  place_map : (xs : List X) → position_or_len p (map f xs) ≡ position_or_len (λ x. p (f x)) xs
  place_map [] = refl
  place_map (x ∷ xs) = rw (place_map xs) refl

  -- what passes a test among the parts of elements is at the place of its element
  pub position_map : (xs : List X) → position (λ x. p (f x)) xs ≡ position p (map f xs)
  position_map xs = rw (place_map xs, length-map xs f) refl

-- the first Map-Server that is due, where the counts of parts and the rounds are known by other names
pub due_place : (now count parts server : ℕ) (given all : List Rounds) (first : Option ℕ) → first ≡ position (λ rs. is_some (due_part now count rs)) given → first ≡ Some server → count ≡ parts → given ≡ all → Some server ≡ position (λ rs. is_some (due_part now parts rs)) all
due_place now count parts server given all first is found same whole =
    sym found ∙ is ∙ ap (λ (n : ℕ). position (λ (rs : Rounds). is_some (due_part now n rs)) given) same ∙ ap (λ (rounds : List Rounds). position (λ (rs : Rounds). is_some (due_part now parts rs)) rounds) whole

-- the first place where a part is found, and what is found there
pub first_found : {X : Type 0} (part_of : X → Option ℕ) (xs : List X) (place : ℕ) (x : X) (found : Option ℕ) → Some place ≡ position (λ x. is_some (part_of x)) xs → place < length xs → x ≡ get_or xs place x → found ≡ part_of x → option_map (λ part. (place, part)) found ≡ first_part part_of xs
first_found part_of xs place x found at within here is = rw (← at, slice_get-get_or xs place x within, ← here, ← is) refl

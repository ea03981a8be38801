-- Where in a list an element stands that passes a test.
use Rattle.std.proofs.Common.{◌≡◌, ℕ, zero, suc, ◌+◌, ◌<◌, ◌≤◌, Bool, true, false, cond, ltb, List, [], ◌∷◌, length, map, Option, Some, None, refl, sym, ap, subst, inl, inr, ◌∙◌, arith, take, Ok}
use Rattle.std.specs.Prelude.{◌≢◌, ◌⊎◌, ◌||◌, not, is_some, slice_get, slice_index_or, ◌==◌, slice_set}
use Rattle.std.specs.List.{AllByRecursion, AllPairs, find, list_any, position, position_or_len}
use Rattle.std.proofs.lemmas.Bool.{le-ltb, ltb-true, ltb-false, lt-ltb, cases_lt, and_parts}
use Rattle.std.proofs.lemmas.List.{length-map, map-id, take-map}
use Rattle.std.proofs.lemmas.Option.{get_or_from_slice_get, slice_get_within, slice_get-get_or}
use Rattle.std.specs.Option.{option_map, option_and_then}
use Rattle.std.proofs.lemmas.Bool.Decides.{nat_tests, Decides-eqb}
use Rattle.lisp_records.specs.Database.{database_of}
use Rattle.lisp_records.specs.Parts.{most_parts, part_count}
use Rattle.lisp_records.specs.Record.{MapRecordValue}
use Rattle.lisp_etr.specs.Rounds.{first_part, round_of, latest_of, is_latest, part_with}
use Rattle.lisp_model.specs.Numbers.{numbers_from, numbers_below, part_numbers}
use Rattle.lisp_etr.specs.Round.{first_round}
use Rattle.lisp_etr.specs.declared.round.Round.{Round}
use Rattle.lisp_etr.specs.declared.rounds.Rounds.{Rounds}
use Rattle.lisp_model.specs.Trace.{Step}
use Rattle.lisp_model.specs.Counted.{latest_nonce, latest_nonces, acked}
use Rattle.lisp_model.proofs.HearingLemmas.{find_true}
use Rattle.lisp_refinement.specs.Stands.{StandsForRound, StandsForRounds}
use Rattle.lisp_refinement.proofs.Gets.{none_is_some, same_some, get_set, get_mapped}

module _ {X : Type 0} where
  -- a place and the element there, or neither
  abbrev pub Placed : List X → Option ℕ → Option X → Type 0
  Placed xs (Some i) (Some x) = slice_get xs i ≡ Some x
  Placed xs None None = Unit {0}
  Placed xs _ _ = ⊥

  -- the place in a list with one more element in front
  later_place : (y : X) (xs : List X) (n : ℕ) (found : Option X) → Placed xs (Some n) found → Placed (y ∷ xs) (Some (1 + n)) found
  later_place y xs n (Some x) is = let next : 1 + n ≡ suc n = omega arith in ap (slice_get (y ∷ xs)) next ∙ is
  later_place y xs n None is = absurd is

  -- and no place in it
  later_none : (y : X) (xs : List X) (found : Option X) → Placed xs None found → Placed (y ∷ xs) None found
  later_none y xs (Some x) is = absurd is
  later_none y xs None is = tt

  -- the place of one further on, by the test whether it is in the list
  later : (y : X) (xs : List X) (n long : ℕ) (found : Option X) (b : Bool) → ltb n long ≡ b → Placed xs (cond b (Some n) None) found → Placed (y ∷ xs) (cond (ltb (1 + n) (suc long)) (Some (1 + n)) None) found
  later y xs n long found true e is =
      let low = ltb-true n long e in
      let below : ltb (1 + n) (suc long) ≡ true = lt-ltb _ _ (omega (arith, low)) in
      subst (λ t. Placed (y ∷ xs) (cond t (Some (1 + n)) None) found) (sym below) (later_place y xs n found is)
  later y xs n long found false e is =
      let high = ltb-false n long e in
      let above : ltb (1 + n) (suc long) ≡ false = le-ltb _ _ (omega (arith, high)) in
      subst (λ t. Placed (y ∷ xs) (cond t (Some (1 + n)) None) found) (sym above) (later_none y xs found is)

  -- the first element that passes stands at the first place whose element passes
  module _ (p : X → Bool) where
    -- the first element passes, or one further on
    place_case : (y : X) (xs : List X) (n : ℕ) (found : Option X) (b : Bool) → Placed xs (cond (ltb n (length xs)) (Some n) None) found
        → Placed (y ∷ xs) (cond (ltb (cond (not b) (1 + n) 0) (suc (length xs))) (Some (cond (not b) (1 + n) 0)) None) (cond b (Some y) found)
    place_case y xs n found true is =
        let below : ltb 0 (suc (length xs)) ≡ true = lt-ltb _ _ (omega arith) in
        subst (λ t. Placed (y ∷ xs) (cond t (Some 0) None) (Some y)) (sym below) refl
    place_case y xs n found false is = later y xs n (length xs) found (ltb n (length xs)) refl is

    pub first_place : (xs : List X) → Placed xs (position p xs) (find p xs)
    first_place [] = none (ltb 0 0) refl
      where
        none : (b : Bool) → ltb 0 0 ≡ b → Placed [] (cond b (Some 0) None) None
        none true e = let low = ltb-true 0 0 e in absurd (omega (arith, low))
        none false e = tt
    first_place (y ∷ xs) = place_case y xs (position_or_len p xs) (find p xs) (p y) (first_place xs)

    -- the same by the test of the first element
    any_case : (y : X) (found : Option X) (b rest : Bool) → rest ≡ is_some found → (b || rest) ≡ is_some (cond b (Some y) found)
    any_case y found true rest is = refl
    any_case y found false rest is = is

    -- a list has such an element where one is found
    pub any_found : (xs : List X) → list_any p xs ≡ is_some (find p xs)
    any_found [] = refl
    any_found (y ∷ xs) = any_case y (find p xs) (p y) (list_any p xs) (any_found xs)

  -- in a list without repeats other places have other elements
  pub other_element : (xs : List X) → AllPairs (λ a b. a ≢ b) xs → (i j : ℕ) (x y : X) → slice_get xs i ≡ Some x → slice_get xs j ≡ Some y → j ≢ i → x ≢ y
  other_element xs once i j x y one other differ same = at (cases_lt i j) (cases_lt j i)
    where
      alike : slice_index_or xs i x ≡ slice_index_or xs j x
      alike = get_or_from_slice_get xs i x x one ∙ same ∙ sym (get_or_from_slice_get xs j y x other)

      at : (i < j) ⊎ (j ≤ i) → (j < i) ⊎ (i ≤ j) → ⊥
      at (inl low) next = once i j x low (slice_get_within xs j y other) alike
      at (inr high) (inl low) = once j i x low (slice_get_within xs i x one) (sym alike)
      at (inr high) (inr low) = differ (omega (arith, high, low))

  -- what is said of each is said of one
  pub all_at : (P : X → Type 0) (xs : List X) → AllByRecursion P xs → (i : ℕ) (d : X) → i < length xs → P (slice_index_or xs i d)
  all_at P [] all i d low = absurd (omega (arith, low))
  all_at P (y ∷ xs) all zero d low = all.0
  all_at P (y ∷ xs) all (suc i) d low = all_at P xs all.1 i d (omega (arith, low))

module _ {X Y : Type 0} (p : Y → Bool) (f : X → Y) where
  -- as many fail before
  prefix_of : (xs : List X) → position_or_len p (map f xs) ≡ position_or_len (λ x. p (f x)) xs
  prefix_of [] = refl
  prefix_of (x ∷ xs) = ap (λ n. cond (not (p (f x))) (1 + n) 0) (prefix_of xs)

  -- the place in a list that was mapped
  pub position_map : (xs : List X) → position p (map f xs) ≡ position (λ x. p (f x)) xs
  position_map xs = λ i. cond (ltb (prefix_of xs i) (length-map xs f i)) (Some (prefix_of xs i)) None

-- Lists with a value for each part of a database, and what two lists of one length have in common.

-- so many numbers from one on
length_from : (first n : ℕ) → length (numbers_from first n) ≡ n
length_from first zero = refl
length_from first (suc n) = ap suc (length_from (suc first) n)

get_from : (first n i k : ℕ) → slice_get (numbers_from first n) i ≡ Some k → k ≡ first + i
get_from first zero i k is = absurd (none_is_some is)
get_from first (suc n) zero k is = let e = same_some first k is in omega (arith, e)
get_from first (suc n) (suc i) k is = let e = get_from (suc first) n i k is in omega (arith, e)

-- as many parts as a database may have, and at each place its number
count_of_parts : length part_numbers ≡ most_parts
unfolding numbers_below
count_of_parts = length_from zero most_parts

pub number_of_part : (i k : ℕ) → slice_get part_numbers i ≡ Some k → k ≡ i
unfolding numbers_below
number_of_part i k is = get_from zero most_parts i k is ∙ omega arith

-- two lists of one length, with a value for each element
module _ {X Y Z : Type 0} (f : X → Z) (g : Y → Z) where
  -- the values agree at each place of both
  abbrev pub Agree : List X → List Y → Type 0
  Agree xs ys = (i : ℕ) (x : X) (y : Y) → slice_get xs i ≡ Some x → slice_get ys i ≡ Some y → f x ≡ g y

  -- where they do, they are one list
  pub same_values : (xs : List X) (ys : List Y) → length xs ≡ length ys → Agree xs ys → map f xs ≡ map g ys
  same_values [] [] count agree = refl
  same_values [] (y ∷ ys) count agree = absurd (omega (arith, count))
  same_values (x ∷ xs) [] count agree = absurd (omega (arith, count))
  same_values (x ∷ xs) (y ∷ ys) count agree =
      let heads : f x ≡ g y = agree 0 x y refl refl in
      let tails : map f xs ≡ map g ys = same_values xs ys (omega (arith, count)) (λ i. agree (suc i)) in
      λ i. heads i ∷ tails i

-- a value for each part is that of its number
pub by_parts : {X Z : Type 0} (f : X → Z) (g : ℕ → Z) (xs : List X) → length xs ≡ most_parts → ((part : ℕ) (x : X) → slice_get xs part ≡ Some x → f x ≡ g part) → map f xs ≡ map g part_numbers
by_parts f g xs count each = same_values f g xs part_numbers (count ∙ sym count_of_parts) (λ i x k at is. each i x at ∙ ap g (sym (number_of_part i k is)))

-- and a list of such values
pub list_by_parts : {Z : Type 0} (g : ℕ → Z) (xs : List Z) → length xs ≡ most_parts → ((part : ℕ) (x : Z) → slice_get xs part ≡ Some x → x ≡ g part) → xs ≡ map g part_numbers
list_by_parts g xs count each = sym (map-id xs) ∙ by_parts (λ x. x) g xs count each

-- so of the first parts the first that passes a test is the first number that does
pub first_by_parts : {X : Type 0} (p : X → Bool) (q : ℕ → Bool) (n : ℕ) (xs : List X) → length xs ≡ most_parts → ((part : ℕ) (x : X) → slice_get xs part ≡ Some x → p x ≡ q part) → position p (take n xs) ≡ position q (take n part_numbers)
first_by_parts p q n xs count each =
    sym (position_map (λ b. b) p (take n xs))
    ∙ ap (position (λ b. b)) (sym (take-map p n xs) ∙ ap (take n) (by_parts p q xs count each) ∙ take-map q n part_numbers)
    ∙ position_map (λ b. b) q (take n part_numbers)

-- the first place in a list where a part is found
module _ {X : Type 0} (part_of : X → Option ℕ) where
  part_mapped : (xs : List X) (place : ℕ) → option_and_then (λ o. o) (slice_get (map part_of xs) place) ≡ option_and_then part_of (slice_get xs place)
  part_mapped [] place = refl
  part_mapped (x ∷ xs) zero = refl
  part_mapped (x ∷ xs) (suc place) = part_mapped xs place

  -- is that in the list of what is found at each
  first_mapped : (xs : List X) → first_part (λ o. o) (map part_of xs) ≡ first_part part_of xs
  first_mapped xs = λ i. option_and_then (λ place. option_map (λ part. (place, part)) (part_mapped xs place i)) (position_map (λ o. is_some o) part_of xs i)

-- it is one in both lists, where the same is found at each place of both
pub first_alike : {X Y : Type 0} (p : X → Option ℕ) (q : Y → Option ℕ) (xs : List X) (ys : List Y) → length xs ≡ length ys → Agree p q xs ys → first_part p xs ≡ first_part q ys
first_alike p q xs ys count agree = sym (first_mapped p xs) ∙ ap (first_part (λ o. o)) (same_values p q xs ys count agree) ∙ first_mapped q ys

pub few_parts : (ms : List MapRecordValue) → database_of ms ≡ Ok ms → part_count ms ≤ most_parts
few_parts ms fits = at (ltb most_parts (part_count ms)) refl
  where
    at : (b : Bool) → ltb most_parts (part_count ms) ≡ b → part_count ms ≤ most_parts
    at true above = absurd ((grind (arith, nat_tests, above, fits)))
    at false low = ltb-false most_parts (part_count ms) low

-- How a router's rounds of all parts with a Map-Server go on.

-- the part with a nonce is there, and the nonce is its last one
pub found_part : (rs : Rounds) (nonce part : ℕ) → part_with nonce (latest_of rs) ≡ Some part → (slice_get rs.parts part ≡ Some (round_of rs part)) × (nonce ≡ (round_of rs part).latest)
found_part rs nonce part is = at (find (λ l. is_latest nonce l) (latest_of rs)) refl
    (subst (λ (p : Option ℕ). Placed (latest_of rs) p (find (λ l. is_latest nonce l) (latest_of rs))) is (first_place (λ l. is_latest nonce l) (latest_of rs)))
  where
    at : (found : Option ℕ) → find (λ l. is_latest nonce l) (latest_of rs) ≡ found → Placed (latest_of rs) (Some part) found → (slice_get rs.parts part ≡ Some (round_of rs part)) × (nonce ≡ (round_of rs part).latest)
    at (Some n) found there =
        let was = get_mapped (λ (r : Round). r.latest) rs.parts part n there in
        let same : round_of rs part ≡ was.0 = get_or_from_slice_get rs.parts part was.0 (first_round 0) was.1 in
        let passes : is_latest nonce n ≡ true = find_true (λ l. is_latest nonce l) (latest_of rs) n found in
        let number : nonce ≡ n = (Decides-eqb nonce n).0 (and_parts (not (nonce == 0)) (nonce == n) passes).1 in
        (was.1 ∙ ap Some (sym same), number ∙ sym was.2 ∙ ap (λ (r : Round). r.latest) (sym same))
    at None found there = absurd there

-- the rounds with a server, as they stood
module _ (T : List Step) (router server : ℕ) (rs : Rounds) (old : StandsForRounds T router server rs) where
  -- that of a part is there
  pub round_there : (part : ℕ) → part < most_parts → slice_get rs.parts part ≡ Some (round_of rs part)
  round_there part low = slice_get-get_or rs.parts part (first_round 0) (let count = old.parts in omega (arith, low, count))

  -- their last nonces are the trace's
  pub latest_known : latest_of rs ≡ latest_nonces T router server
  latest_known = by_parts (λ (r : Round). r.latest) (latest_nonce T router server) rs.parts old.parts (λ part r is. (old.round part r is).latest)

  -- each stands later, where that of one part was set
  pub round_set : (U : List Step) (part : ℕ) (x : Round) → StandsForRound U router server part x
      → ((other : ℕ) (r : Round) → part ≢ other → StandsForRound T router server other r → StandsForRound U router server other r)
      → (other : ℕ) (r : Round) → slice_get (slice_set rs.parts part x) other ≡ Some r → StandsForRound U router server other r
  round_set U part x here there other r is = at (get_set rs.parts part other x r is)
    where
      at : ((other ≡ part) × (x ≡ r)) ⊎ ((other ≢ part) × (slice_get rs.parts other ≡ Some r)) → StandsForRound U router server other r
      at (inl set) = subst (λ (y : Round). StandsForRound U router server other y) set.1 (subst (λ (n : ℕ). StandsForRound U router server n x) (sym set.0) here)
      at (inr same) = there other r (λ part_is. same.0 (sym part_is)) (old.round other r same.1)

  -- in a longer trace in which nothing more was counted
  module _ (U : List Step) (same : (part : ℕ) → acked U router server part ≡ acked T router server part) where
    -- what was counted stays
    acked_stays : (part : ℕ) (pair : Option (ℕ × ℕ)) → slice_get rs.acked part ≡ Some pair → pair ≡ acked U router server part
    acked_stays part pair is = old.acked part pair is ∙ sym (same part)

    -- all stand, if each goes on to
    pub rounds_stay : ((part : ℕ) (r : Round) → StandsForRound T router server part r → StandsForRound U router server part r) → StandsForRounds U router server rs
    rounds_stay each = record { parts = old.parts; acked_parts = old.acked_parts; round = λ part r is. each part r (old.round part r is); acked = acked_stays }

    -- or if each has become one that stands
    pub rounds_become : (f : Round → Round) → ((part : ℕ) (r : Round) → StandsForRound T router server part r → StandsForRound U router server part (f r)) → StandsForRounds U router server (record rs { parts = map f rs.parts })
    rounds_become f each = record {
      parts = length-map rs.parts f ∙ old.parts;
      acked_parts = old.acked_parts;
      round = λ part r is. (let was = get_mapped f rs.parts part r is in
          subst (λ (x : Round). StandsForRound U router server part x) was.2 (each part was.0 (old.round part was.0 was.1)));
      acked = acked_stays;
    }

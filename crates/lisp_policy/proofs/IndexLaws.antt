-- Looking up and adding the places of numbers.
use Rattle.std.proofs.Common.{◌≡◌, ◌==◌, ℕ, suc, ◌+◌, ◌<◌, Bool, true, false, cond, List, [], ◌∷◌, ◌++◌, length, take, Option, Some, None, Result, IfOk, IfErr, refl, sym, ap, ◌∙◌, subst, slice_index_or, arith}
use Rattle.std.specs.Bool.{Decides}
use Rattle.std.specs.Cmp.{nat_cmp_total}
use Rattle.std.specs.List.{find, position, position_from, insert}
use Rattle.std.specs.List.Sorted.{IsStrictlySortedBy, IsSearchInRange, IsBinarySearchResult}
use Rattle.std.specs.Option.{option_map, option_or}
use Rattle.std.specs.Ordering.{nat_cmp}
use Rattle.std.proofs.Math.Seq.{take-suc}
use Rattle.std.proofs.lemmas.Bool.Decides.{Decides-eqb}
use Rattle.std.proofs.lemmas.Iterator.Adapters.{position_from-zero}
use Rattle.std.proofs.lemmas.List.{length-take-le}
use Rattle.std.proofs.lemmas.List.Quantifiers.{position-Some}
use Rattle.std.proofs.lemmas.Map.Lookups.{exact_unsigned}
use Rattle.lisp_policy.specs.declared.index.Entry.{Entry}
use Rattle.lisp_policy.specs.Order.{KeysRise, IsGap}
use Rattle.lisp_policy.specs.Index.{is_for, place_in, Adds, Indexes}
use Rattle.lisp_policy.proofs.Found.{nowhere, at_place, or_none}
use Rattle.lisp_policy.proofs.Halving as halving

decides : (n : ℕ) (e : Entry) → Decides (is_for n e) (e.number ≡ n)
decides n e = Decides-eqb e.number n

-- what halving finds among entries
pub searched : (es : List Entry) (n : ℕ) (r : Result ℕ ℕ) → KeysRise (λ e. e.number) nat_cmp es → IsSearchInRange r (length es) → IsBinarySearchResult (λ e. nat_cmp e.number n) es r → record { found : IfOk r (λ i. position (is_for n) es ≡ Some i); gap : IfErr r (IsGap (λ e. e.number) nat_cmp es n) }
searched es n r rise within is = halving.searched (λ e. e.number) nat_cmp nat_cmp_total exact_unsigned is_for decides es n r rise within is

pub place_nowhere : (es : List Entry) (n i : ℕ) → IsGap (λ e. e.number) nat_cmp es n i → place_in es n ≡ None
unfolding place_in
place_nowhere es n i gap = ap (option_map (λ e. e.place)) (nowhere (is_for n) es (halving.gap_nowhere (λ e. e.number) nat_cmp nat_cmp_total exact_unsigned is_for decides es n i gap))

pub place_found : (es : List Entry) (n i : ℕ) (d : Entry) → position (is_for n) es ≡ Some i → place_in es n ≡ Some (slice_index_or es i d).place
unfolding place_in
place_found es n i d at = ap (option_map (λ e. e.place)) (at_place (is_for n) es i d at)

-- nothing is added where the number has a place
pub adds_nothing : (es : List Entry) (n i place : ℕ) → position (is_for n) es ≡ Some i → Adds es es n place
adds_nothing es n i place at m = either (n == m) refl
  where
    either : (b : Bool) → (n == m) ≡ b → place_in es m ≡ option_or (place_in es m) (cond b (Some place) None)
    either false e = sym (or_none (place_in es m))
    either true e =
        let there : place_in es m ≡ Some _ = place_found es m i (record { number = 0; place = 0 }) (subst (λ (q : ℕ). position (is_for q) es ≡ Some i) ((Decides-eqb n m).0 e) at) in
        there ∙ sym (ap (λ (o : Option ℕ). option_or o (Some place)) there)

pub adds_one : (es : List Entry) (i : ℕ) (y : Entry) → IsGap (λ e. e.number) nat_cmp es y.number i → Adds es (insert es i y) y.number y.place
unfolding place_in
adds_one es i y gap m = ap (option_map (λ e. e.place)) (halving.put_insert (λ e. e.number) nat_cmp nat_cmp_total exact_unsigned is_for decides es i y none m) ∙ either (y.number == m) refl
  where
    none : position (is_for y.number) es ≡ None
    none = halving.gap_nowhere (λ e. e.number) nat_cmp nat_cmp_total exact_unsigned is_for decides es y.number i gap

    either : (b : Bool) → (y.number == m) ≡ b → option_map (λ e. e.place) (option_or (cond b (Some y) None) (find (is_for m) es)) ≡ option_or (option_map (λ e. e.place) (find (is_for m) es)) (cond b (Some y.place) None)
    either false e = sym (or_none (option_map (λ e. e.place) (find (is_for m) es)))
    either true e = sym (ap (λ (o : Option Entry). option_or (option_map (λ e. e.place) o) (Some y.place)) (nowhere (is_for m) es (subst (λ (q : ℕ). position (is_for q) es ≡ None) ((Decides-eqb y.number m).0 e) none)))

pub rises_insert : (es : List Entry) (i : ℕ) (y : Entry) → KeysRise (λ e. e.number) nat_cmp es → IsGap (λ e. e.number) nat_cmp es y.number i → KeysRise (λ e. e.number) nat_cmp (insert es i y)
rises_insert es i y rise gap = halving.rises_insert (λ e. e.number) nat_cmp nat_cmp_total exact_unsigned is_for decides es i y rise gap

pub no_entries : KeysRise {X = Entry} (λ e. e.number) nat_cmp []
unfolding IsStrictlySortedBy
no_entries = tt

-- ---- the places of a list's elements

place_from : {X : Type 0} (p : X → Bool) (xs : List X) (x : X) (start : ℕ) → position_from p start (xs ++ x ∷ []) ≡ option_or (position_from p start xs) (cond (p x) (Some (start + length xs)) None)
place_from p [] x start = ap (λ (n : ℕ). cond (p x) (Some n) None) (let same : start ≡ start + 0 = omega arith in same)
place_from p (y ∷ ys) x start = ap (λ (o : Option ℕ). cond (p y) (Some start) o) (place_from p ys x (start + 1)) ∙ either (p y)
  where
    either : (b : Bool) → cond b (Some start) (option_or (position_from p (start + 1) ys) (cond (p x) (Some (start + 1 + length ys)) None)) ≡ option_or (cond b (Some start) (position_from p (start + 1) ys)) (cond (p x) (Some (start + length (y ∷ ys))) None)
    either true = refl
    either false = ap (λ (n : ℕ). option_or (position_from p (start + 1) ys) (cond (p x) (Some n) None)) (let same : start + 1 + length ys ≡ start + length (y ∷ ys) = omega arith in same)

-- an element behind the others is the first that passes only where none before does
pub position-push : {X : Type 0} (p : X → Bool) (xs : List X) (x : X) → position p (xs ++ x ∷ []) ≡ option_or (position p xs) (cond (p x) (Some (length xs)) None)
position-push p xs x =
    let start : 0 + length xs ≡ length xs = omega arith in
    position_from-zero p (xs ++ x ∷ []) ∙ place_from p xs x 0 ∙ ap (λ (n : ℕ). option_or (position_from p 0 xs) (cond (p x) (Some n) None)) start ∙ ap (λ (o : Option ℕ). option_or o (cond (p x) (Some (length xs)) None)) (sym (position_from-zero p xs))

module _ {X : Type 0} (number : X → ℕ) where
  pub nothing_indexed : Indexes [] number []
  unfolding Indexes place_in
  nothing_indexed n = refl

  -- one more element is indexed
  pub one_more : (old new : List Entry) (xs : List X) (x : X) → Indexes old number xs → Adds old new (number x) (length xs) → Indexes new number (xs ++ x ∷ [])
  unfolding Indexes
  one_more old new xs x so_far adds n = adds n ∙ ap (λ (o : Option ℕ). option_or o (cond (number x == n) (Some (length xs)) None)) (so_far n) ∙ sym (position-push (λ y. number y == n) xs x)

  -- the element that stands at a number's place is the first that has it
  pub at_index : (entries : List Entry) (xs : List X) (n i : ℕ) (d : X) → Indexes entries number xs → place_in entries n ≡ Some i → find (λ x. number x == n) xs ≡ Some (slice_index_or xs i d)
  unfolding Indexes
  at_index entries xs n i d indexed at = at_place (λ x. number x == n) xs i d (sym (indexed n) ∙ at)

  pub not_indexed : (entries : List Entry) (xs : List X) (n : ℕ) → Indexes entries number xs → place_in entries n ≡ None → find (λ x. number x == n) xs ≡ None
  unfolding Indexes
  not_indexed entries xs n indexed at = nowhere (λ x. number x == n) xs (sym (indexed n) ∙ at)

  -- a place is one of the list
  pub in_list : (entries : List Entry) (xs : List X) (n i : ℕ) (d : X) → Indexes entries number xs → place_in entries n ≡ Some i → i < length xs
  unfolding Indexes
  in_list entries xs n i d indexed at = (position-Some (λ x. number x == n) xs i d (sym (indexed n) ∙ at)).0

  -- the elements so far are indexed, as a loop over all goes on
  pub next_indexed : (old new : List Entry) (xs : List X) (x : X) (i : ℕ) → i < length xs → x ≡ slice_index_or xs i x → Indexes old number (take i xs) → Adds old new (number x) i → Indexes new number (take (i + 1) xs)
  next_indexed old new xs x i lt at so_far adds =
      let following : i + 1 ≡ suc i = omega arith in
      let taken : take (i + 1) xs ≡ take i xs ++ x ∷ [] = ap (λ (n : ℕ). take n xs) following ∙ take-suc xs i x lt ∙ ap (λ (y : X). take i xs ++ y ∷ []) (sym at) in
      let long : i ≡ length (take i xs) = sym (length-take-le i xs (omega (arith, lt))) in
      subst (Indexes new number) (sym taken) (one_more old new (take i xs) x so_far (subst (Adds old new (number x)) long adds))

-- A search by halving in a list whose keys rise, and an element that is put in its place there.
use Rattle.std.proofs.Common.{◌≡◌, ◌≢◌, ◌⊎◌, inl, inr, ℕ, zero, suc, ◌+◌, ◌<◌, ◌≤◌, Bool, true, false, cond, List, [], ◌∷◌, length, take, drop, map, get_or, slice_set, Option, Some, None, Result, Ok, Err, IfOk, IfErr, refl, sym, ap, ◌∙◌, subst, true≢false, arith}
use Rattle.std.specs.Bool.{Decides}
use Rattle.std.specs.Cmp.{IsTotalOrder}
use Rattle.std.specs.List.{AllByRecursion, AllPairs, find, position, position_from, insert, remove}
use Rattle.std.specs.List.Sorted.{IsStrictlySortedBy, IsSortedBy, IsSearchInRange, IsBinarySearchResult}
use Rattle.std.specs.Option.{option_or}
use Rattle.std.specs.Ordering.{is_lt}
use Rattle.std.specs.declared.cmp.Ordering.{Ordering}
use Rattle.std.specs.declared.cmp.Ordering.TheVariants.{Less, Equal, Greater}
use Rattle.std.proofs.lemmas.Bool.{cases_lt}
use Rattle.std.proofs.lemmas.List.{take-append-drop}
use Rattle.std.proofs.lemmas.Iterator.Adapters.{position_from-zero}
use Rattle.std.proofs.lemmas.List.Folds.{find-append}
use Rattle.std.proofs.lemmas.List.Quantifiers.{position-Some}
use Rattle.std.proofs.lemmas.List.Sorted.{searchable_from_sorted}
use Rattle.lisp_policy.specs.Order.{KeysRise, IsGap}
use Rattle.lisp_policy.proofs.Found.{nowhere, not_true}

none_from : {X : Type 0} (p : X → Bool) (xs : List X) (start : ℕ) → ((i : ℕ) (d : X) → i < length xs → p (get_or xs i d) ≡ false) → position_from p start xs ≡ None
none_from p [] start none = refl
none_from p (x ∷ xs) start none = ap (λ (b : Bool). cond b (Some start) (position_from p (start + 1) xs)) (none 0 x (omega arith)) ∙ none_from p xs (start + 1) (λ i d lt. none (suc i) d (omega (arith, lt)))

-- what holds of all keys holds of each element's
later : {X K : Type 0} (key : X → K) (P : K → Type 0) (xs : List X) (i : ℕ) (d : X) → AllByRecursion P (map key xs) → i < length xs → P (key (get_or xs i d))
later key P [] i d all lt = absurd (omega (arith, lt))
later key P (x ∷ xs) zero d all lt = all.0
later key P (x ∷ xs) (suc i) d all lt = later key P xs i d all.1 (omega (arith, lt))

all_inserted : {X K : Type 0} (key : X → K) (P : K → Type 0) (xs : List X) (i : ℕ) (y : X) → AllByRecursion P (map key xs) → P (key y) → AllByRecursion P (map key (insert xs i y))
all_inserted key P xs zero y all one = (one, all)
all_inserted key P [] (suc i) y all one = (one, tt)
all_inserted key P (x ∷ xs) (suc i) y all one = (all.0, all_inserted key P xs i y all.1 one)

all_removed : {X K : Type 0} (key : X → K) (P : K → Type 0) (xs : List X) (i : ℕ) → AllByRecursion P (map key xs) → AllByRecursion P (map key (remove xs i))
all_removed key P [] zero all = all
all_removed key P [] (suc i) all = all
all_removed key P (x ∷ xs) zero all = all.1
all_removed key P (x ∷ xs) (suc i) all = (all.0, all_removed key P xs i all.1)

some_same : {X : Type 0} (x y : X) → ◌≡◌ {A = Option X} (Some x) (Some y) → x ≡ y
some_same x y e = cc

front_none : {X : Type 0} (a b : Option X) → option_or a b ≡ None → a ≡ None
front_none None b e = refl
front_none (Some x) b e = absurd cc

module _ {X K : Type 0} (key : X → K) (cmp : K → K → Ordering) (total : IsTotalOrder cmp) (exact : (a b : K) → cmp a b ≡ Equal → a ≡ b) (has : K → X → Bool) (decides : (k : K) (x : X) → Decides (has k x) (key x ≡ k)) where
  not_below_itself : (k : K) → cmp k k ≢ Less
  not_below_itself k below = (let turned = total.antisymm k k in absurd cc)

  not_above_itself : (k : K) → cmp k k ≢ Greater
  not_above_itself k above = (let turned = total.antisymm k k in absurd cc)

  turned_above : (a b : K) → cmp a b ≡ Less → cmp b a ≡ Greater
  turned_above a b below = (let turned = total.antisymm b a in cc)

  turned_below : (a b : K) → cmp a b ≡ Greater → cmp b a ≡ Less
  turned_below a b above = (let turned = total.antisymm b a in cc)

  -- an element whose key is below or above another hasn't that one
  below_has_not : (k : K) (x : X) → cmp (key x) k ≡ Less → has k x ≡ false
  below_has_not k x below = not_true (has k x) (λ t. not_below_itself k (subst (λ (q : K). cmp q k ≡ Less) ((decides k x).0 t) below))

  above_has_not : (k : K) (x : X) → cmp (key x) k ≡ Greater → has k x ≡ false
  above_has_not k x above = not_true (has k x) (λ t. not_above_itself k (subst (λ (q : K). cmp q k ≡ Greater) ((decides k x).0 t) above))

  -- each key is below all later ones
  pub below_later : (xs : List X) → KeysRise key cmp xs → (i j : ℕ) (d : X) → i < j → j < length xs → cmp (key (get_or xs i d)) (key (get_or xs j d)) ≡ Less
  unfolding IsStrictlySortedBy
  below_later [] rise i j d lt within = absurd (omega (arith, within))
  below_later (x ∷ xs) rise i zero d lt within = absurd (omega (arith, lt))
  below_later (x ∷ xs) rise zero (suc j) d lt within = later key (λ k. cmp (key x) k ≡ Less) xs j d rise.0 (omega (arith, within))
  below_later (x ∷ xs) rise (suc i) (suc j) d lt within = below_later xs rise.1 i j d (omega (arith, lt)) (omega (arith, within))

  pub keys_apart : (xs : List X) → KeysRise key cmp xs → AllPairs (λ a b. key a ≢ key b) xs
  keys_apart xs rise i j d lt within same = not_below_itself (key (get_or xs j d)) (subst (λ (k : K). cmp k (key (get_or xs j d)) ≡ Less) same (below_later xs rise i j d lt within))

  is_sorted : (xs : List X) → KeysRise key cmp xs → IsSortedBy (λ a b. is_lt (cmp (key a) (key b))) xs
  is_sorted xs rise k d from lt = ap is_lt (turned_above _ _ (below_later xs rise k (k + 1) d (omega arith) (omega (arith, lt))))

  found_from : (xs : List X) (start i : ℕ) (d : X) (k : K) → KeysRise key cmp xs → i < length xs → key (get_or xs i d) ≡ k → position_from (has k) start xs ≡ Some (start + i)
  unfolding IsStrictlySortedBy
  found_from [] start i d k rise within same = absurd (omega (arith, within))
  found_from (x ∷ xs) start zero d k rise within same = ap (λ (b : Bool). cond b (Some start) (position_from (has k) (start + 1) xs)) ((decides k x).1 same) ∙ ap Some (omega arith)
  found_from (x ∷ xs) start (suc i) d k rise within same =
      let inside : i < length xs = omega (arith, within) in
      let below = subst (λ (q : K). cmp (key x) q ≡ Less) same (later key (λ q. cmp (key x) q ≡ Less) xs i d rise.0 inside) in
      ap (λ (b : Bool). cond b (Some start) (position_from (has k) (start + 1) xs)) (below_has_not k x below) ∙ found_from xs (start + 1) i d k rise.1 inside same ∙ ap Some (omega arith)

  place_found : (xs : List X) (k : K) (i : ℕ) → KeysRise key cmp xs → i < length xs → ((d : X) → cmp (key (get_or xs i d)) k ≡ Equal) → position (has k) xs ≡ Some i
  place_found [] k i rise within ties = absurd (omega (arith, within))
  place_found (x ∷ xs) k i rise within ties = position_from-zero (has k) (x ∷ xs) ∙ found_from (x ∷ xs) 0 i x k rise within (exact _ _ (ties x)) ∙ ap Some (omega arith)

  -- a key that has a gap has no place
  pub gap_nowhere : (xs : List X) (k : K) (i : ℕ) → IsGap key cmp xs k i → position (has k) xs ≡ None
  gap_nowhere xs k i gap = position_from-zero (has k) xs ∙ none_from (has k) xs 0 (λ j d within. either j d within (cases_lt j i))
    where
      either : (j : ℕ) (d : X) → j < length xs → (j < i) ⊎ (i ≤ j) → has k (get_or xs j d) ≡ false
      either j d within (inl lt) = below_has_not k (get_or xs j d) (gap.below j d (omega arith) lt)
      either j d within (inr le) = above_has_not k (get_or xs j d) (gap.above j d le within)

  -- halving ends at the place of the key, or at the gap for it
  pub searched : (xs : List X) (k : K) (r : Result ℕ ℕ) → KeysRise key cmp xs → IsSearchInRange r (length xs) → IsBinarySearchResult (λ x. cmp (key x) k) xs r → record { found : IfOk r (λ i. position (has k) xs ≡ Some i); gap : IfErr r (IsGap key cmp xs k) }
  searched xs k (Ok i) rise within ties = record { found = place_found xs k i rise within ties; gap = tt }
  searched xs k (Err i) rise within parted =
      let parts = parted (searchable_from_sorted total key xs k (is_sorted xs rise)) in
      record { found = tt; gap = record { within = within; below = parts.0; above = parts.1 } }

  halves : (xs : List X) (i : ℕ) (k : K) → find (has k) xs ≡ option_or (find (has k) (take i xs)) (find (has k) (drop i xs))
  halves xs i k = ap (find (has k)) (sym (take-append-drop i xs)) ∙ find-append (has k) (take i xs) (drop i xs)

  inserted : (xs : List X) (i : ℕ) (y : X) → position (has (key y)) xs ≡ None → (k : K) (b : Bool) → has k y ≡ b → find (has k) (insert xs i y) ≡ option_or (cond b (Some y) None) (find (has k) xs)
  inserted xs i y at k b t = find-append (has k) (take i xs) (y ∷ drop i xs) ∙ ap (λ (b : Bool). option_or (find (has k) (take i xs)) (cond b (Some y) (find (has k) (drop i xs)))) t ∙ rest b t
    where
      rest : (b : Bool) → has k y ≡ b → option_or (find (has k) (take i xs)) (cond b (Some y) (find (has k) (drop i xs))) ≡ option_or (cond b (Some y) None) (find (has k) xs)
      rest true own =
          let none = nowhere (has k) xs (subst (λ (q : K). position (has q) xs ≡ None) ((decides k y).0 own) at) in
          ap (λ (o : Option X). option_or o (Some y)) (front_none (find (has k) (take i xs)) (find (has k) (drop i xs)) (sym (halves xs i k) ∙ none))
      rest false other = sym (halves xs i k)

  -- an element of the key was put anywhere, where there was none
  pub put_insert : (xs : List X) (i : ℕ) (y : X) → position (has (key y)) xs ≡ None → (k : K) → find (has k) (insert xs i y) ≡ option_or (cond (has k y) (Some y) None) (find (has k) xs)
  put_insert xs i y at k = inserted xs i y at k (has k y) refl

  all_above : (xs : List X) (k : K) → ((j : ℕ) (d : X) → j < length xs → cmp (key (get_or xs j d)) k ≡ Greater) → AllByRecursion (λ q. cmp k q ≡ Less) (map key xs)
  all_above [] k above = tt
  all_above (x ∷ xs) k above = (turned_below (key x) k (above 0 x (omega arith)), all_above xs k (λ j d lt. above (suc j) d (omega (arith, lt))))

  -- keys rise still where one was put into its gap
  pub rises_insert : (xs : List X) (i : ℕ) (y : X) → KeysRise key cmp xs → IsGap key cmp xs (key y) i → KeysRise key cmp (insert xs i y)
  unfolding IsStrictlySortedBy
  rises_insert xs zero y rise gap = (all_above xs (key y) (λ j d lt. gap.above j d (omega arith) lt), rise)
  rises_insert [] (suc i) y rise gap = (tt, tt)
  rises_insert (x ∷ xs) (suc i) y rise gap = (
    all_inserted key (λ q. cmp (key x) q ≡ Less) xs i y rise.0 (gap.below 0 x (omega arith) (omega arith)),
    rises_insert xs i y rise.1 (record { within = omega (arith, gap.within); below = λ j d from lt. gap.below (suc j) d (omega arith) (omega (arith, lt)); above = λ j d from lt. gap.above (suc j) d (omega (arith, from)) (omega (arith, lt)) }),
  )

  -- keys rise still where one element was removed
  pub rises_remove : (xs : List X) (i : ℕ) → KeysRise key cmp xs → KeysRise key cmp (remove xs i)
  unfolding IsStrictlySortedBy
  rises_remove [] zero rise = rise
  rises_remove [] (suc i) rise = rise
  rises_remove (x ∷ xs) zero rise = rise.1
  rises_remove (x ∷ xs) (suc i) rise = (all_removed key (λ q. cmp (key x) q ≡ Less) xs i rise.0, rises_remove xs i rise.1)

  same_keys : (xs : List X) (i : ℕ) (y : X) → i < length xs → key (get_or xs i y) ≡ key y → map key (slice_set xs i y) ≡ map key xs
  same_keys [] i y within same = absurd (omega (arith, within))
  same_keys (x ∷ xs) zero y within same = ap (λ (k : K). k ∷ map key xs) (sym same)
  same_keys (x ∷ xs) (suc i) y within same = ap (λ (ks : List K). key x ∷ ks) (same_keys xs i y (omega (arith, within)) same)

  -- keys rise still where an element was set at the place of its key
  pub rises_set : (xs : List X) (i : ℕ) (y : X) → position (has (key y)) xs ≡ Some i → KeysRise key cmp xs → KeysRise key cmp (slice_set xs i y)
  rises_set xs i y at rise =
      let there = position-Some (has (key y)) xs i y at in
      subst (IsStrictlySortedBy cmp) (sym (same_keys xs i y there.0 ((decides (key y) (get_or xs i y)).0 there.1))) rise

  none_above : (xs : List X) (k : K) → AllByRecursion (λ q. cmp k q ≡ Less) (map key xs) → find (has k) xs ≡ None
  none_above [] k above = refl
  none_above (x ∷ xs) k above = ap (λ (b : Bool). cond b (Some x) (find (has k) xs)) (above_has_not k x (turned_above k (key x) above.0)) ∙ none_above xs k above.1

  -- where the element of a key was removed, none has it
  pub removed_own : (xs : List X) (i : ℕ) (d : X) (k : K) → KeysRise key cmp xs → i < length xs → key (get_or xs i d) ≡ k → find (has k) (remove xs i) ≡ None
  unfolding IsStrictlySortedBy
  removed_own [] i d k rise within same = absurd (omega (arith, within))
  removed_own (x ∷ xs) zero d k rise within same = none_above xs k (subst (λ (q : K). AllByRecursion (λ r. cmp q r ≡ Less) (map key xs)) same rise.0)
  removed_own (x ∷ xs) (suc i) d k rise within same =
      let inside : i < length xs = omega (arith, within) in
      let below = subst (λ (q : K). cmp (key x) q ≡ Less) same (later key (λ q. cmp (key x) q ≡ Less) xs i d rise.0 inside) in
      ap (λ (b : Bool). cond b (Some x) (find (has k) (remove xs i))) (below_has_not k x below) ∙ removed_own xs i d k rise.1 inside same

  -- and another key is found as before
  pub removed_other : (xs : List X) (i : ℕ) (d : X) (k : K) → i < length xs → has k (get_or xs i d) ≡ false → find (has k) (remove xs i) ≡ find (has k) xs
  removed_other [] i d k within other = absurd (omega (arith, within))
  removed_other (x ∷ xs) zero d k within other = sym (ap (λ (b : Bool). cond b (Some x) (find (has k) xs)) other)
  removed_other (x ∷ xs) (suc i) d k within other = ap (λ (o : Option X). cond (has k x) (Some x) o) (removed_other xs i d k (omega (arith, within)) other)

  -- of the elements that pass a test the first has the least key
  pub first_is_least : (p : X → Bool) (xs : List X) (n m : X) (i : ℕ) → KeysRise key cmp xs → find p xs ≡ Some n → i < length xs → get_or xs i m ≡ m → p m ≡ true → cmp (key m) (key n) ≢ Less
  unfolding IsStrictlySortedBy
  first_is_least p [] n m i rise first within is passes = absurd (omega (arith, within))
  first_is_least p (x ∷ xs) n m i rise first within is passes = either (p x) refl first i within is (λ j later_first inside same. first_is_least p xs n m j rise.1 later_first inside same passes)
    where
      either : (b : Bool) → p x ≡ b → cond b (Some x) (find p xs) ≡ Some n → (i : ℕ) → i < length (x ∷ xs) → get_or (x ∷ xs) i m ≡ m → ((j : ℕ) → find p xs ≡ Some n → j < length xs → get_or xs j m ≡ m → cmp (key m) (key n) ≢ Less) → cmp (key m) (key n) ≢ Less
      either true test at zero within is rest = subst (λ (y : X). cmp (key m) (key y) ≢ Less) (is ∙ sym is ∙ some_same x n at) (subst (λ (y : X). cmp (key y) (key x) ≢ Less) is (not_below_itself (key x)))
      either true test at (suc j) within is rest = λ below. (
          let above = turned_above (key x) (key m) (subst (λ (y : X). cmp (key x) (key y) ≡ Less) is (later key (λ q. cmp (key x) q ≡ Less) xs j m rise.0 (omega (arith, within)))) in
          let again = subst (λ (y : X). cmp (key m) (key y) ≡ Less) (sym (some_same x n at)) below in
          absurd cc
          )
      either false test at zero within is rest = absurd (true≢false (sym passes ∙ ap p (sym is) ∙ test))
      either false test at (suc j) within is rest = rest j at (omega (arith, within)) is

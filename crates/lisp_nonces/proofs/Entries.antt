-- What setting an entry does to the values of each pair.
use Rattle.std.proofs.Common.{◌≡◌, ◌≢◌, ℕ, zero, suc, ◌+◌, ◌<◌, Bool, true, false, cond, List, [], ◌∷◌, ◌++◌, length, slice_index_or, slice_set, map, Option, Some, None, refl, sym, ap, ◌∙◌, true≢false, arith}
use Rattle.std.specs.Option.{option_map, unwrap_or}
use Rattle.std.specs.FinMap.{get-from_entries, find as map_find}
use Rattle.std.specs.List.{find, position, position_from}
use Rattle.std.specs.Ordering.{eq_by_cmp, is_eq}
use Rattle.std.specs.Cmp.{eq_by_cmp_equiv}
use Rattle.std.specs.declared.cmp.Ordering.{Ordering}
use Rattle.std.specs.declared.cmp.Ordering.TheVariants.{Less, Equal, Greater}
use Rattle.std.proofs.lemmas.List.{append-nil}
use Rattle.std.proofs.lemmas.List.Quantifiers.{position-Some}
use Rattle.std.proofs.lemmas.List.Recursion.{found_set_other, found_push_other}
use Rattle.std.proofs.lemmas.Iterator.Adapters.{position_from-zero}
use Rattle.lisp_nonces.specs.declared.pair.Pair.{Pair}
use Rattle.lisp_nonces.specs.Pair.{pair_cmp}
use Rattle.lisp_nonces.specs.Kept.{kept_at}
use Rattle.lisp_nonces.specs.Entries.{EntryValue, is_of, kept_of}
use Rattle.lisp_nonces.proofs.Pairs.{pair_total, same_pair}

-- the values of the first entry of a pair, 'nothing' alone where it has none
unfoldable pub answers_of : List EntryValue → Pair → List (Option ℕ)
answers_of es q = unwrap_or (option_map (λ e. e.values) (find (is_of q) es)) (None ∷ [])

-- a pair is that of its entry
pub is_of_itself : (q : Pair) (values : List (Option ℕ)) → is_of q (record { pair = q; values = values }) ≡ true
is_of_itself q values = (eq_by_cmp_equiv pair_total).refl q

ties : (o : Ordering) → is_eq o ≡ true → o ≡ Equal
ties Less e = absurd (true≢false (sym e))
ties Equal e = refl
ties Greater e = absurd (true≢false (sym e))

not_of_case : (q p : Pair) → q ≢ p → (b : Bool) → eq_by_cmp pair_cmp q p ≡ b → b ≡ false
not_of_case q p differ true e = absurd (differ (same_pair q p (ties (pair_cmp q p) e)))
not_of_case q p differ false e = refl

-- another pair isn't
pub is_not_of : (q : Pair) (e : EntryValue) → q ≢ e.pair → is_of q e ≡ false
is_not_of q e differ = not_of_case q e.pair differ (is_of q e) refl

picks : (b : Bool) (x : EntryValue) (rest : Option EntryValue) → unwrap_or (option_map (λ e. e.values) (cond b (Some x) rest)) (None ∷ []) ≡ cond b x.values (unwrap_or (option_map (λ e. e.values) rest) (None ∷ []))
picks true x rest = refl
picks false x rest = refl

pub step : (q : Pair) (x : EntryValue) (xs : List EntryValue) → answers_of (x ∷ xs) q ≡ cond (is_of q x) x.values (answers_of xs q)
unfolding answers_of
step q x xs = picks (is_of q x) x (find (is_of q) xs)

pub none : (q : Pair) → answers_of [] q ≡ None ∷ []
unfolding answers_of
none q = refl

module _ (q : Pair) where
  found : List EntryValue → List (Option ℕ)
  found es = answers_of es q

  set_at : (es : List EntryValue) (i : ℕ) (y d : EntryValue) → i < length es → ((k : ℕ) → k < i → is_of q (slice_index_or es k d) ≡ false) → is_of q y ≡ true → answers_of (slice_set es i y) q ≡ y.values
  set_at [] i y d lt before is = absurd (omega arith)
  set_at (x ∷ xs) zero y d lt before is = step q y xs ∙ ap (λ b. cond b y.values (answers_of xs q)) is
  set_at (x ∷ xs) (suc i) y d lt before is = step q x (slice_set xs i y) ∙ ap (λ b. cond b x.values (answers_of (slice_set xs i y) q)) (before 0 (omega arith)) ∙ set_at xs i y d (omega arith) (λ k below. before (suc k) (omega arith)) is

  -- the first entry of the pair was set
  pub set_here : (es : List EntryValue) (i : ℕ) (y : EntryValue) → position (is_of q) es ≡ Some i → is_of q y ≡ true → answers_of (slice_set es i y) q ≡ y.values
  set_here es i y at is =
      let place = position-Some (is_of q) es i y at in
      set_at es i y y place.0 place.2 is

  -- the first entry of a pair has its values
  at_place : (es : List EntryValue) (i : ℕ) (d : EntryValue) → i < length es → ((k : ℕ) → k < i → is_of q (slice_index_or es k d) ≡ false) → is_of q (slice_index_or es i d) ≡ true → answers_of es q ≡ (slice_index_or es i d).values
  at_place [] i d lt before is = absurd (omega arith)
  at_place (x ∷ xs) zero d lt before is = step q x xs ∙ ap (λ b. cond b x.values (answers_of xs q)) is
  at_place (x ∷ xs) (suc i) d lt before is = step q x xs ∙ ap (λ b. cond b x.values (answers_of xs q)) (before 0 (omega arith)) ∙ at_place xs i d (omega arith) (λ k below. before (suc k) (omega arith)) is

  pub values_at : (es : List EntryValue) (i : ℕ) (d : EntryValue) → position (is_of q) es ≡ Some i → answers_of es q ≡ (slice_index_or es i d).values
  values_at es i d at =
      let place = position-Some (is_of q) es i d at in
      at_place es i d place.0 place.2 place.1

  -- the place of the first entry of a pair is one of the list
  pub place_within : (es : List EntryValue) (i : ℕ) → position (is_of q) es ≡ Some i → i < length es
  place_within [] i at = absurd (let clash : ◌≡◌ {A = Option ℕ} None (Some i) = at in cc)
  place_within (x ∷ xs) i at = (position-Some (is_of q) (x ∷ xs) i x at).0

  past_case : (x : EntryValue) (xs ys : List EntryValue) (n : ℕ) (b : Bool) → is_of q x ≡ b → cond b (Some n) (position_from (is_of q) (n + 1) xs) ≡ None → (position_from (is_of q) (n + 1) xs ≡ None → answers_of (xs ++ ys) q ≡ answers_of ys q)
      → answers_of (x ∷ xs ++ ys) q ≡ answers_of ys q
  past_case x xs ys n true of at rest = absurd (let clash : ◌≡◌ {A = Option ℕ} (Some n) None = at in cc)
  past_case x xs ys n false of at rest = step q x (xs ++ ys) ∙ ap (λ b. cond b x.values (answers_of (xs ++ ys) q)) of ∙ rest at

  past : (es ys : List EntryValue) (n : ℕ) → position_from (is_of q) n es ≡ None → answers_of (es ++ ys) q ≡ answers_of ys q
  past [] ys n at = refl
  past (x ∷ xs) ys n at = past_case x xs ys n (is_of q x) refl at (λ later. past xs ys (n + 1) later)

  -- the pair has no entry
  pub nowhere : (es : List EntryValue) → position (is_of q) es ≡ None → answers_of es q ≡ None ∷ []
  nowhere es at = ap (λ (l : List EntryValue). answers_of l q) (sym (append-nil es)) ∙ past es [] 0 (sym (position_from-zero (is_of q) es) ∙ at) ∙ none q

  -- the pair had no entry, and one was added
  pub push_here : (es : List EntryValue) (y : EntryValue) → position (is_of q) es ≡ None → is_of q y ≡ true → answers_of (es ++ y ∷ []) q ≡ y.values
  push_here es y at is = past es (y ∷ []) 0 (sym (position_from-zero (is_of q) es) ∙ at) ∙ step q y [] ∙ ap (λ b. cond b y.values (answers_of [] q)) is

  -- another pair's entry was set
  pub set_there : (p : Pair) (es : List EntryValue) (i : ℕ) (y : EntryValue) → q ≢ p → position (is_of p) es ≡ Some i → q ≢ y.pair → answers_of (slice_set es i y) q ≡ answers_of es q
  set_there p es i y differ at other =
      let place = position-Some (is_of p) es i y at in
      let same : p ≡ (slice_index_or es i y).pair = same_pair p (slice_index_or es i y).pair (ties (pair_cmp p (slice_index_or es i y).pair) place.1) in
      found_set_other (λ (es : List EntryValue). answers_of es q) (is_of q) (λ e. e.values) (None ∷ []) (none q) (step q) es i y y (is_not_of q (slice_index_or es i y) (λ e. differ (e ∙ sym same))) (is_not_of q y other)

  -- another pair's entry was added
  pub push_there : (es : List EntryValue) (y : EntryValue) → q ≢ y.pair → answers_of (es ++ y ∷ []) q ≡ answers_of es q
  push_there es y other = found_push_other (λ (es : List EntryValue). answers_of es q) (is_of q) (λ e. e.values) (None ∷ []) (none q) (step q) es y (is_not_of q y other)

find_in_map : (q : Pair) (es : List EntryValue) → map_find pair_cmp q (map (λ e. (e.pair, e.values)) es) ≡ option_map (λ e. e.values) (find (is_of q) es)
find_in_map q [] = refl
find_in_map q (x ∷ xs) = alike (is_of q x) x xs (find_in_map q xs)
  where
    alike : (b : Bool) (x : EntryValue) (xs : List EntryValue) → map_find pair_cmp q (map (λ e. (e.pair, e.values)) xs) ≡ option_map (λ e. e.values) (find (is_of q) xs) → cond b (Some x.values) (map_find pair_cmp q (map (λ e. (e.pair, e.values)) xs)) ≡ option_map (λ e. e.values) (cond b (Some x) (find (is_of q) xs))
    alike true x xs rest = refl
    alike false x xs rest = rest

-- the lists that the entries make
pub kept_of_entries : (es : List EntryValue) (q : Pair) → kept_at (kept_of es) q ≡ answers_of es q
unfolding kept_at kept_of answers_of
kept_of_entries es q = ap (λ (o : Option (List (Option ℕ))). unwrap_or o (None ∷ [])) (get-from_entries pair_total (map (λ e. (e.pair, e.values)) es) q ∙ find_in_map q es)

-- Setting, dropping and listing rows.
use Rattle.std.proofs.Common.{◌≡◌, ◌≢◌, not, ℕ, ◌-◌, ◌<◌, Bool, true, false, cond, nat_lt, List, [], ◌∷◌, ◌++◌, length, slice_set, slice_index_or, Option, Some, None, IfSome, refl, sym, ap, ◌∙◌, subst, true≢false, arith}
use Rattle.std.proofs.lemmas.Bool.{cases_eq, ltb-true, ltb-false, not-true}
use Rattle.std.proofs.lemmas.Bool.Decides.{Decides-and, Decides-ltb}
use Rattle.std.proofs.lemmas.Option.{slice_get_read, slice_get_past}
use Rattle.std.proofs.lemmas.List.Edits.{swapped_from_swap, length-swap}
use Rattle.std.proofs.lemmas.List.{reverse-append}
use Rattle.std.proofs.lemmas.List.Elements.{All-contains, All-filter, All-contains_itself, Contains-append_cases, filter_passes}
use Rattle.std.proofs.lemmas.List.Kept.{AllPairs-filter}
use Rattle.std.proofs.lemmas.List.Sorted.{ranks_by, sorted_far, IsPermutation-filter_both, IsPermutation-keeps, IsPermutation-sym, Contains-permutation}
use Rattle.std.specs.Bool.{Decides}
use Rattle.std.specs.Option.{option_or, option_and_then, option_map, is_some}
use Rattle.std.specs.List.{AllPairs, Contains, find, filter, position, swap, slice_get}
use Rattle.std.specs.List.Sorted.{IsPermutation, IsSortedByKey}
use Rattle.std.specs.Ordering.{is_lt, ordering_reverse}
use Rattle.std.specs.declared.cmp.Ordering.{Ordering}
use Rattle.std.specs.declared.cmp.Ordering.TheVariants.{Less, Equal}
use Rattle.lisp_records.proofs.DatabaseLaws.{block_eq-Decides}
use Rattle.lisp_records.proofs.Elements.{found}
use Rattle.lisp_records.proofs.RouterLaws.{router_eq-Decides}
use Rattle.lisp_records.specs.declared.router.RouterId.{RouterId}
use Rattle.lisp_records.specs.Address.{PrefixValue}
use Rattle.lisp_records.specs.Row.{RowValue, is_alive}
use Rattle.lisp_lookup.specs.Table.{is_row_of, row_key, row_at, last_of, OneEach, Sets, Expires, if_alive, row_cmp, IsHeld}
use Rattle.lisp_lookup.proofs.Apart.{on_either, own_found}
use Rattle.lisp_policy.proofs.Found.{put_set, put_push}
use Rattle.lisp_lookup.proofs.Orders.{key_cmp, key_total, same_key}

abbrev has : RouterId × PrefixValue → RowValue → Bool
has k h = is_row_of k.0 k.1 h

pub has_key : (k : RouterId × PrefixValue) (h : RowValue) → Decides (has k h) (row_key h ≡ k)
has_key k h =
    let both = Decides-and _ _ (router_eq-Decides h.router k.0) (block_eq-Decides h.mapping.eid k.1) in
    (λ t. (let e = both.0 t in λ i. (e.0 i, e.1 i)), λ e. both.1 (ap (λ (x : RouterId × PrefixValue). x.0) e, ap (λ (x : RouterId × PrefixValue). x.1) e))

-- the row of a router and prefix was set over another
pub sets_set : (rows : List RowValue) (i : ℕ) (y : RowValue) → position (is_row_of y.router y.mapping.eid) rows ≡ Some i → Sets rows (slice_set rows i y) (y ∷ [])
unfolding row_at
sets_set rows i y at = λ router eid. put_set row_key has has_key rows i y at (router, eid)

-- a row was added for a router and prefix that had none
pub sets_push : (rows : List RowValue) (y : RowValue) → position (is_row_of y.router y.mapping.eid) rows ≡ None → Sets rows (rows ++ y ∷ []) (y ∷ [])
unfolding row_at
sets_push rows y at = λ router eid. put_push row_key has has_key rows y at (router, eid)

-- nothing was set
or_chain : (b : Bool) (y : RowValue) (last old : Option RowValue) → option_or (cond b (Some y) None) (option_or last old) ≡ option_or (cond b (Some y) last) old
or_chain b y last old = grind arith

-- one row more was set
pub sets_more : (old mid new given : List RowValue) (y : RowValue) → Sets old mid given → Sets mid new (y ∷ []) → Sets old new (given ++ y ∷ [])
sets_more old mid new given y first second router eid =
    second router eid
    ∙ ap (λ (o : Option RowValue). option_or (cond (is_row_of router eid y) (Some y) None) o) (first router eid)
    ∙ or_chain (is_row_of router eid y) y (last_of given router eid) (row_at old router eid)
    ∙ ap (λ (rows : List RowValue). option_or (find (is_row_of router eid) rows) (row_at old router eid)) (sym (reverse-append given (y ∷ [])))

pub some_inj : {X : Type 0} (x y : X) → ◌≡◌ {A = Option X} (Some x) (Some y) → x ≡ y
some_inj x y e = cc

-- what differs by key does so in any order
module _ {X K : Type 0} (key : X → K) where
  abbrev Differ : List X → Type 0
  Differ xs = AllPairs (λ a b. key a ≢ key b) xs

  pub either_way : (xs : List X) → Differ xs → (i j : ℕ) (d : X) → i < length xs → j < length xs → key (slice_index_or xs i d) ≡ key (slice_index_or xs j d) → i ≡ j
  either_way xs one i j d within_i within_j same =
      let not_below : i < j → ⊥ = λ less. one i j d less within_j same in
      let not_above : j < i → ⊥ = λ less. one j i d less within_i (sym same) in
      omega arith

  differ_swap : (xs : List X) (a b : ℕ) → a < length xs → b < length xs → Differ xs → Differ (swap xs a b)
  differ_swap xs a b within_a within_b one i j d less lt same =
      let size = length-swap xs a b in
      let swapped = swapped_from_swap xs (swap xs a b) a b d within_a within_b refl in
      grind (arith, either_way xs one, swapped.0, swapped.1, swapped.2 i, swapped.2 j, size, cases_eq i a, cases_eq i b, cases_eq j a, cases_eq j b)

  pub differ_moved : (xs moved : List X) → IsPermutation xs moved → Differ xs → Differ moved
  differ_moved xs moved permuted one = IsPermutation-keeps xs Differ one differ_swap moved permuted

-- a row that is held is found by its router and prefix, and what is found is held
pub found_own : (rows : List RowValue) (h : RowValue) → OneEach rows → Contains rows h → row_at rows h.router h.mapping.eid ≡ Some h
unfolding row_at
found_own rows h one held = own_found row_key has has_key rows h one held

pub found_holds : {X : Type 0} (p : X → Bool) (rows : List X) (h : X) → find p rows ≡ Some h → Contains rows h × (p h ≡ true)
found_holds p rows h = found p rows h

-- a filter holds what passes
pub filtered_holds : {X : Type 0} (p : X → Bool) (rows : List X) (h : X) → Contains (filter p rows) h → Contains rows h × (p h ≡ true)
filtered_holds p rows h c = (All-contains (Contains rows) (filter p rows) h (All-filter p (Contains rows) rows (All-contains_itself rows)) c, All-contains (λ x. p x ≡ true) (filter p rows) h (filter_passes p rows) c)

pub filter_holds : {X : Type 0} (p : X → Bool) (rows : List X) (h : X) → Contains rows h → p h ≡ true → Contains (filter p rows) h
filter_holds p rows h c passes = on_either (Contains-append_cases (filter p rows) (filter (λ x. not (p x)) rows) h (Contains-permutation rows (filter p rows ++ filter (λ x. not (p x)) rows) h (IsPermutation-filter_both p (λ x. not (p x)) (λ x. refl) rows) c))
    (λ passing. passing)
    (λ fails. absurd (true≢false (sym passes ∙ not-true (p h) (All-contains (λ x. not (p x) ≡ true) (filter (λ x. not (p x)) rows) h (filter_passes (λ x. not (p x)) rows) fails))))

-- the rows that are alive
abbrev pub alive_of : List RowValue → ℕ → List RowValue
alive_of rows now = filter (λ h. is_alive h now) rows

pub one_each_alive : (rows : List RowValue) (now : ℕ) → OneEach rows → OneEach (alive_of rows now)
one_each_alive rows now one = AllPairs-filter (λ a b. row_key a ≢ row_key b) (λ h. is_alive h now) rows one

-- a live row that is found was found before
of_alive : (rows : List RowValue) (now : ℕ) (router : RouterId) (eid : PrefixValue) (h : RowValue) → OneEach rows → row_at (alive_of rows now) router eid ≡ Some h → (row_at rows router eid ≡ Some h) × (is_alive h now ≡ true)
unfolding row_at
of_alive rows now router eid h one e =
    let at = found_holds (is_row_of router eid) (alive_of rows now) h e in
    let held = filtered_holds (λ h. is_alive h now) rows h at.0 in
    let own : row_key h ≡ (router, eid) = (has_key (router, eid) h).0 at.1 in
    (subst (λ (k : RouterId × PrefixValue). row_at rows k.0 k.1 ≡ Some h) own (found_own rows h one held.0), held.1)

-- a row that was found and is alive is found again
stays : (rows : List RowValue) (now : ℕ) (router : RouterId) (eid : PrefixValue) (h : RowValue) → OneEach rows → row_at rows router eid ≡ Some h → is_alive h now ≡ true → row_at (alive_of rows now) router eid ≡ Some h
unfolding row_at
stays rows now router eid h one e lives =
    let at = found_holds (is_row_of router eid) rows h e in
    let own : row_key h ≡ (router, eid) = (has_key (router, eid) h).0 at.1 in
    subst (λ (k : RouterId × PrefixValue). row_at (alive_of rows now) k.0 k.1 ≡ Some h) own (found_own (alive_of rows now) h (one_each_alive rows now one) (filter_holds (λ h. is_alive h now) rows h at.0 lives))

-- of the rows that are alive, those of a router and prefix
pub expires : (rows : List RowValue) (now : ℕ) → OneEach rows → Expires rows (alive_of rows now) now
expires rows now one router eid = old_case (row_at rows router eid) refl (row_at (alive_of rows now) router eid) refl
  where
    living : (h : RowValue) (b : Bool) → is_alive h now ≡ b → row_at rows router eid ≡ Some h → (new : Option RowValue) → row_at (alive_of rows now) router eid ≡ new → new ≡ cond b (Some h) None
    living h true lives e new at = sym at ∙ stays rows now router eid h one e lives
    living h false dead e None at = refl
    living h false dead e (Some g) at = absurd (let was = of_alive rows now router eid g one at in true≢false (sym was.1 ∙ ap (λ (x : RowValue). is_alive x now) (sym (some_inj h g (sym e ∙ was.0))) ∙ dead))

    old_case : (old : Option RowValue) → row_at rows router eid ≡ old → (new : Option RowValue) → row_at (alive_of rows now) router eid ≡ new → row_at (alive_of rows now) router eid ≡ option_and_then (if_alive now) old
    old_case None e None at = at
    old_case None e (Some g) at = absurd (let clash : ◌≡◌ {A = Option RowValue} None (Some g) = sym e ∙ (of_alive rows now router eid g one at).0 in cc)
    old_case (Some h) e new at = at ∙ living h (is_alive h now) refl e new at

-- the order of keys, where the other way round it isn't less, and the keys differ
pub less_from : (o : Ordering) → is_lt (ordering_reverse o) ≡ false → o ≢ Equal → o ≡ Less
less_from o up differ = grind arith

rises : (held : List RowValue) → OneEach held → IsSortedByKey row_key key_cmp held → AllPairs (λ a b. row_cmp a b ≡ Less) held
rises held one sorted i j d before lt =
    let later = sorted_far (λ a b. is_lt (key_cmp (row_key a) (row_key b))) (ranks_by key_total row_key) held sorted i j d (omega (arith, before)) lt in
    let turned = key_total.antisymm (row_key (slice_index_or held j d)) (row_key (slice_index_or held i d)) in
    less_from (key_cmp (row_key (slice_index_or held i d)) (row_key (slice_index_or held j d))) (ap is_lt (sym turned) ∙ later) (λ tie. one i j d before lt (same_key (row_key (slice_index_or held i d)) (row_key (slice_index_or held j d)) tie))

-- the live rows, sorted by router and prefix
pub is_held : (rows held : List RowValue) (now : ℕ) → OneEach rows → IsPermutation (alive_of rows now) held → IsSortedByKey row_key key_cmp held → IsHeld rows now held
unfolding row_at
is_held rows held now one moved sorted = record {
  rising = rises held (differ_moved row_key (alive_of rows now) held moved (one_each_alive rows now one)) sorted;
  each = λ h. (
    λ c. (let was = filtered_holds (λ x. is_alive x now) rows h (Contains-permutation held (alive_of rows now) h (IsPermutation-sym (alive_of rows now) held moved) c) in (found_own rows h one was.0, (Decides-ltb (now - h.accepted) h.life).0 was.1)),
    λ is. Contains-permutation (alive_of rows now) held h moved (filter_holds (λ x. is_alive x now) rows h (found_holds (has (row_key h)) rows h is.0).0 ((Decides-ltb (now - h.accepted) h.life).1 is.1)),
  );
}

-- a row that was looked up by its place
pub row_got : {R : Type 0} (view : R → RowValue) (rows : List RowValue) (place : ℕ) (got : Option R) → is_some got ≡ nat_lt place (length rows) → IfSome got (λ row. view row ≡ slice_index_or rows place (view row)) → option_map view got ≡ slice_get rows place
row_got view rows place None is read = sym (slice_get_past rows place (ltb-false place (length rows) (sym is)))
row_got view rows place (Some row) is read = sym (slice_get_read rows (length rows) place (view row) refl (ltb-true place (length rows) (sym is)) read)

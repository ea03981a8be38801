-- What deadlines say of rows, and what is left once the dead ones are taken out.
use Rattle.std.proofs.Common.{◌≡◌, ◌≢◌, ◌⊎◌, inl, inr, ℕ, zero, suc, ◌+◌, ◌-◌, ◌<◌, ◌≤◌, min, Bool, true, false, cond, List, [], ◌∷◌, ◌++◌, length, slice_index, slice_index_or, Option, Some, None, refl, sym, ap, ◌∙◌, subst, true≢false, arith, slice_set, IfSome, map}
use Rattle.std.proofs.lemmas.Bool.{cases_eq, cases_order, lt-leb}
use Rattle.std.proofs.lemmas.Bool.Decides.{nat_tests}
use Rattle.std.proofs.lemmas.List.{get_or_default, get_or-append-add, length-append, get_or_append_left, get_or_push, length_push, length-set, get_or-set_same, get_or-set_other, get_or-map, length-map}
use Rattle.std.proofs.lemmas.List.Elements.{All-nil, All-push, All-contains, Contains-append_cases, Contains-append_right}
use Rattle.std.proofs.lemmas.List.Sorted.{length_permutation, IsPermutation-refl, IsPermutation-sym, IsPermutation-pop_more, Contains-permutation, IsPermutation-trans, IsPermutation-cons, IsPermutation-remove, sum_by-IsPermutation}
use Rattle.std.proofs.lemmas.List.Quantifiers.{position-Some, all_pairs_remove}
use Rattle.std.proofs.lemmas.List.Sums.{length-filter}
use Rattle.std.proofs.lemmas.Map.Made.{Contains-tail}
use Rattle.std.specs.List.{All, Contains, position, AllPairs, count_by, filter, remove}
use Rattle.std.specs.List.Sorted.{IsPermutation}
use Rattle.std.specs.Ordering.{nat_cmp, ordering_then, is_lt}
use Rattle.std.specs.declared.cmp.Ordering.{Ordering}
use Rattle.std.specs.declared.cmp.Ordering.TheVariants.{Less, Equal}
use Rattle.std.specs.declared.vec.Vec.{Vec}
use Rattle.std.specs.declared.collections.VecDeque.{VecDeque}
use Rattle.std.specs.Prelude.{nat_le}
use Rattle.std.specs.Vec.{vec_len, vec_capacity}
use Rattle.std.specs.VecDeque.{deque_len, deque_capacity}
use Rattle.lisp_records.specs.declared.router.RouterId.{RouterId}
use Rattle.lisp_records.specs.Address.{PrefixValue, prefix_cmp}
use Rattle.lisp_records.specs.Router.{router_cmp}
use Rattle.lisp_records.specs.Moment.{max_moment}
use Rattle.lisp_records.specs.Row.{RowValue, is_alive}
use Rattle.lisp_lookup.specs.Table.{is_row_of, row_key, row_at, OneEach, Expires, DropsDead}
use Rattle.lisp_lookup.specs.Index.{deadline, row_prefix_cmp, row_deadline_cmp, row_at_place, IsIndex, order_cmp, is_before, IsBound, Rises, IsFresh, IsTakenOut, IsPutIn}
use Rattle.lisp_lookup.specs.declared.order.Order.{Order}
use Rattle.lisp_lookup.specs.declared.probe.Probe.{Probe}
use Rattle.lisp_lookup.specs.Room.{spare_of}
use Rattle.lisp_lookup.proofs.IndexLaws.{number_at, prefix_total, itself, order_total, rises_same, exact}
use Rattle.lisp_policy.proofs.Found.{nowhere}
use Rattle.lisp_lookup.proofs.TableLaws.{has_key, differ_moved, found_own, found_holds, filtered_holds, filter_holds, alive_of, one_each_alive, expires, either_way}
use Rattle.lisp_lookup.proofs.Apart.{on_either, found}

-- a row whose deadline has come is dead
pub dead : (h : RowValue) (now : ℕ) → deadline h ≤ now → now ≤ max_moment → is_alive h now ≡ false
dead h now le early = grind (arith, nat_tests)

-- a row whose deadline hasn't come is alive
pub alive : (h : RowValue) (now : ℕ) → now < deadline h → is_alive h now ≡ true
alive h now lt = grind (arith, nat_tests)

number_le : (a b : ℕ) (second : Ordering) → ordering_then (nat_cmp a b) second ≡ Less → a ≤ b
number_le a b second below = grind (arith, nat_tests)

module _ (rows : List RowValue) (numbers : List ℕ) (index : IsIndex row_deadline_cmp rows numbers) (number : ℕ) (some : 0 < length numbers) (first : number ≡ slice_index_or numbers 0 number) where
  named : slice_index numbers 0 ≡ number
  named = number_at numbers 0 number some (sym first)

  -- no deadline is sooner than the first
  sooner : (n : ℕ) (d : RowValue) → n < length rows → deadline (slice_index_or rows number d) ≤ deadline (slice_index_or rows n d)
  sooner n d lt =
      let (k, lt_k, at) = index.each n lt in
      let is : slice_index numbers k ≡ n = number_at numbers k n lt_k at in
      on_either (cases_eq k 0) (λ same. omega (arith, ap (λ (m : ℕ). deadline (slice_index_or rows m d)) (sym named ∙ ap (λ (j : ℕ). slice_index numbers j) (sym same) ∙ is)))
      (λ off.
      (let rising = index.rises.rising 0 k d (omega (arith, off)) lt_k in
      let le = number_le (deadline (row_at_place rows numbers 0 d)) (deadline (row_at_place rows numbers k d)) (row_prefix_cmp (row_at_place rows numbers 0 d) (row_at_place rows numbers k d)) rising in
      omega (arith, le, ap (λ (m : ℕ). deadline (slice_index_or rows m d)) named, ap (λ (m : ℕ). deadline (slice_index_or rows m d)) is)))

  -- where the first by deadline is alive, each row is
  pub all_alive : (now : ℕ) (x : RowValue) → x ≡ slice_index_or rows number x → now < deadline x → All (λ h. is_alive h now ≡ true) rows
  all_alive now x read lt = λ n d within. alive (slice_index_or rows n d) now (omega (arith, lt, sooner n x within, ap deadline read, ap deadline (get_or_default rows n x d within)))

abbrev pub key_prefix_cmp : RouterId × PrefixValue → RouterId × PrefixValue → Ordering
key_prefix_cmp a b = ordering_then (prefix_cmp a.1 b.1) (router_cmp a.0 b.0)

pub same_tie : (a b : RowValue) → row_key a ≡ row_key b → row_prefix_cmp a b ≡ Equal
same_tie a b alike = subst (λ (k : RouterId × PrefixValue). key_prefix_cmp (row_key a) k ≡ Equal) alike (itself row_prefix_cmp prefix_total a)

-- each row has its number, so no two rows are of one router and prefix
pub one_each : (rows : List RowValue) (numbers : List ℕ) → IsIndex row_prefix_cmp rows numbers → OneEach rows
one_each rows numbers index i j d lt within same = apart (index.each i (omega (arith, lt, within))) (index.each j within)
  where
    below : (p q : ℕ) → p < q → q < length numbers → row_key (row_at_place rows numbers p d) ≡ row_key (row_at_place rows numbers q d) → ⊥
    below p q less lt_q alike = absurd (let clash : ◌≡◌ {A = Ordering} Less Equal = sym (index.rises.rising p q d less lt_q) ∙ same_tie (row_at_place rows numbers p d) (row_at_place rows numbers q d) alike in cc)

    apart : Contains numbers i → Contains numbers j → ⊥
    apart (p, lt_p, at_p) (q, lt_q, at_q) =
        let i_is = number_at numbers p i lt_p at_p in
        let j_is = number_at numbers q j lt_q at_q in
        let alike : row_key (row_at_place rows numbers p d) ≡ row_key (row_at_place rows numbers q d) = ap (λ (n : ℕ). row_key (slice_index_or rows n d)) i_is ∙ same ∙ ap (λ (n : ℕ). row_key (slice_index_or rows n d)) (sym j_is) in
        either p q lt_p lt_q i_is j_is alike (cases_order p q)
      where
        either : (p q : ℕ) → p < length numbers → q < length numbers → slice_index numbers p ≡ i → slice_index numbers q ≡ j → row_key (row_at_place rows numbers p d) ≡ row_key (row_at_place rows numbers q d) → (p ≡ q) ⊎ ((p < q) ⊎ (q < p)) → ⊥
        either p q lt_p lt_q i_is j_is alike (inl at) = omega (arith, i_is, j_is, lt, ap (λ (k : ℕ). slice_index numbers k) at)
        either p q lt_p lt_q i_is j_is alike (inr (inl less)) = below p q less lt_q alike
        either p q lt_p lt_q i_is j_is alike (inr (inr more)) = below q p more lt_p (sym alike)

row_found : (rows : List RowValue) (router : RouterId) (eid : PrefixValue) (h : RowValue) → row_at rows router eid ≡ Some h → Contains rows h × (is_row_of router eid h ≡ true)
unfolding row_at
row_found rows router eid h e = found_holds (is_row_of router eid) rows h e

own_row : (rows : List RowValue) (router : RouterId) (eid : PrefixValue) (h : RowValue) → OneEach rows → Contains rows h → is_row_of router eid h ≡ true → row_at rows router eid ≡ Some h
own_row rows router eid h one held own = subst (λ (k : RouterId × PrefixValue). row_at rows k.0 k.1 ≡ Some h) ((has_key (router, eid) h).0 own) (found_own rows h one held)

-- equal rows in another order are found alike
module _ (xs ys : List RowValue) (one_x : OneEach xs) (one_y : OneEach ys) (router : RouterId) (eid : PrefixValue) (there : (h : RowValue) → Contains xs h → is_row_of router eid h ≡ true → Contains ys h) (back : (h : RowValue) → Contains ys h → is_row_of router eid h ≡ true → Contains xs h) where
  by_case : (x y : Option RowValue) → row_at xs router eid ≡ x → row_at ys router eid ≡ y → row_at xs router eid ≡ row_at ys router eid
  by_case (Some h) y e f = (let at = row_found xs router eid h e in e ∙ sym (own_row ys router eid h one_y (there h at.0 at.1) at.1))
  by_case None (Some h) e f = (let at = row_found ys router eid h f in own_row xs router eid h one_x (back h at.0 at.1) at.1 ∙ sym f)
  by_case None None e f = e ∙ sym f

  pub found_alike : row_at xs router eid ≡ row_at ys router eid
  found_alike = by_case (row_at xs router eid) (row_at ys router eid) refl refl

-- dead rows were taken out, and the rest is alive
pub expired : (old gone new : List RowValue) (now : ℕ) → OneEach old → OneEach new → IsPermutation old (gone ++ new) → All (λ h. is_alive h now ≡ false) gone → All (λ h. is_alive h now ≡ true) new → Expires old new now
expired old gone new now one_old one_new moved dead_gone alive_new router eid = found_alike new (alive_of old now) one_new (one_each_alive old now one_old) router eid there back ∙ expires old now one_old router eid
  where
    there : (h : RowValue) → Contains new h → is_row_of router eid h ≡ true → Contains (alive_of old now) h
    there h held own = filter_holds (λ h. is_alive h now) old h (Contains-permutation (gone ++ new) old h (IsPermutation-sym old (gone ++ new) moved) (Contains-append_right gone new h held)) (All-contains (λ h. is_alive h now ≡ true) new h alive_new held)

    back : (h : RowValue) → Contains (alive_of old now) h → is_row_of router eid h ≡ true → Contains new h
    back h held own = on_either (Contains-append_cases gone new h (Contains-permutation old (gone ++ new) h moved was.0))
        (λ dropped. absurd (true≢false (sym was.1 ∙ All-contains (λ h. is_alive h now ≡ false) gone h dead_gone dropped))) (λ stays. stays)
      where
        was : Contains old h × (is_alive h now ≡ true)
        was = filtered_holds (λ h. is_alive h now) old h held

-- rows that were taken out so far, each of them dead
pub record Dropped (old new : List RowValue) (now : ℕ) : Type 0 where
  pub gone : List RowValue
  pub moved : IsPermutation old (gone ++ new)
  pub all_dead : All (λ h. is_alive h now ≡ false) gone

pub dropped_none : (rows : List RowValue) (now : ℕ) → Dropped rows rows now
dropped_none rows now = record { gone = []; moved = IsPermutation-refl rows; all_dead = All-nil (λ h. is_alive h now ≡ false) }

pub dropped_more : (old mid new : List RowValue) (now : ℕ) (h : RowValue) → Dropped old mid now → IsPermutation mid (h ∷ new) → is_alive h now ≡ false → Dropped old new now
dropped_more old mid new now h so_far step is = record {
  gone = so_far.gone ++ h ∷ [];
  moved = IsPermutation-pop_more old so_far.gone mid new h so_far.moved step;
  all_dead = All-push (λ h. is_alive h now ≡ false) so_far.gone h so_far.all_dead is;
}

-- so what is left has no two rows of one router and prefix, where the rows had none
pub one_left : (old new : List RowValue) (now : ℕ) → OneEach old → Dropped old new now → OneEach new
one_left old new now one so_far i j d lt within same =
    let apart = differ_moved row_key old (so_far.gone ++ new) so_far.moved one in
    let at = λ (k : ℕ). get_or-append-add so_far.gone new k d in
    apart (length so_far.gone + i) (length so_far.gone + j) d (omega (arith, lt)) (omega (arith, within, length-append so_far.gone new)) (ap row_key (at i) ∙ same ∙ ap row_key (sym (at j)))

pub dropped_all : (old new : List RowValue) (now : ℕ) → OneEach old → Dropped old new now → All (λ h. is_alive h now ≡ true) new → Expires old new now
dropped_all old new now one so_far rest = expired old so_far.gone new now one (one_left old new now one so_far) so_far.moved so_far.all_dead rest

-- one row was taken out, which was dead
module _ (old new : List RowValue) (now : ℕ) (h : RowValue) (one : OneEach old) (moved : IsPermutation old (h ∷ new)) (is : is_alive h now ≡ false) where
  pub one_each_left : OneEach new
  one_each_left = one_left old new now one (record { gone = h ∷ []; moved = moved; all_dead = All-push (λ x. is_alive x now ≡ false) [] h (All-nil (λ x. is_alive x now ≡ false)) is })

  was_there : (x : RowValue) → Contains (h ∷ new) x → Contains old x
  was_there x = Contains-permutation (h ∷ new) old x (IsPermutation-sym old (h ∷ new) moved)

  -- it is none of the others
  not_left : (x : RowValue) → Contains new x → row_key h ≢ row_key x
  not_left x (k, lt, at) same = differ_moved row_key old (h ∷ new) moved one 0 (suc k) x (omega arith) (omega (arith, lt)) (same ∙ ap row_key (sym (get_or_default new k x x lt ∙ at)))

  taken : (found : Option RowValue) → row_at new h.router h.mapping.eid ≡ found → found ≡ None
  taken None e = refl
  taken (Some x) e = (let at = row_found new h.router h.mapping.eid x e in absurd (not_left x at.0 (sym ((has_key (row_key h) x).0 at.1))))

  module _ (router : RouterId) (eid : PrefixValue) (other : (router, eid) ≢ row_key h) where
    stays : (x : RowValue) → Contains old x → is_row_of router eid x ≡ true → Contains new x
    stays x held own = Contains-tail h new x (λ same. other (sym ((has_key (router, eid) x).0 own) ∙ ap row_key (sym same))) (Contains-permutation old (h ∷ new) x moved held)

    others : row_at new router eid ≡ row_at old router eid
    others = found_alike new old one_each_left one router eid (λ x held own. was_there x (Contains-append_right (h ∷ []) new x held)) stays

  pub drops_dead : DropsDead old new now (row_key h)
  drops_dead = record {
    row = h;
    was = found_own old h one (was_there h (0, omega arith, refl));
    dead = is;
    gone = taken (row_at new h.router h.mapping.eid) refl;
    fewer = omega (arith, length_permutation old (h ∷ new) moved);
    others = others;
  }

-- ---- What setting a row does to the orders of rows.

-- a row was set over the one whose number was taken out
module _ (order : Order) (rows : List RowValue) (old mid : List ℕ) (number : ℕ) (row : RowValue) (within : number < length rows) (left : IsTakenOut order rows old mid number) where
  abbrev over : List RowValue
  over = slice_set rows number row

  pub rises_over : Rises (order_cmp order) over mid
  rises_over = rises_same (order_cmp order) (order_total order) rows mid over mid refl (λ k lt. omega (arith, left.rises.below k lt, length-set rows number row)) (λ k d lt. get_or-set_other rows number (slice_index mid k) row d (left.gone k lt)) left.rises

  pub fresh_over : OneEach rows → row_key (slice_index_or rows number row) ≡ row_key row → IsFresh over mid number
  fresh_over one own k d lt same =
      let other = get_or-set_other rows number (slice_index mid k) row d (left.gone k lt) in
      let here = get_or-set_same rows number row d within in
      left.gone k lt (either_way row_key rows one (slice_index mid k) number d (left.rises.below k lt) within (ap row_key (sym other) ∙ same ∙ ap row_key here ∙ sym own ∙ ap row_key (get_or_default rows number row d within)))

  pub index_over : (new : List ℕ) → IsIndex (order_cmp order) rows old → IsPutIn order over mid new number → IsIndex (order_cmp order) over new
  index_over new index entered = record {
    rises = entered.rises;
    each = λ n lt. on_either (cases_eq n number) (λ at. subst (Contains new) (sym at) entered.here)
        (λ off. entered.others n (left.others n (index.each n (omega (arith, lt, length-set rows number row))) off));
  }

-- the order by prefix doesn't change where a row of the same router and prefix is set
pub prefixes_over : (rows : List RowValue) (numbers : List ℕ) (number : ℕ) (row : RowValue) → number < length rows → row_key (slice_index_or rows number row) ≡ row_key row → IsIndex row_prefix_cmp rows numbers → IsIndex row_prefix_cmp (slice_set rows number row) numbers
prefixes_over rows numbers number row within own index = record {
  rises = record {
    below = λ k lt. omega (arith, index.rises.below k lt, length-set rows number row);
    rising = λ i j d lt lt_j. (keys i d (omega (arith, lt, lt_j)) j lt_j ∙ index.rises.rising i j d lt lt_j);
  };
  each = λ n lt. index.each n (omega (arith, lt, length-set rows number row));
}
  where
    key_at : (n : ℕ) (d : RowValue) → (n ≡ number) ⊎ (n ≢ number) → row_key (slice_index_or (slice_set rows number row) n d) ≡ row_key (slice_index_or rows n d)
    key_at n d (inl at) = subst (λ (m : ℕ). row_key (slice_index_or (slice_set rows number row) m d) ≡ row_key (slice_index_or rows m d)) (sym at) (ap row_key (get_or-set_same rows number row d within) ∙ sym own ∙ ap row_key (get_or_default rows number row d within))
    key_at n d (inr off) = ap row_key (get_or-set_other rows number n row d off)

    keys : (i : ℕ) (d : RowValue) → i < length numbers → (j : ℕ) → j < length numbers → row_prefix_cmp (row_at_place (slice_set rows number row) numbers i d) (row_at_place (slice_set rows number row) numbers j d) ≡ row_prefix_cmp (row_at_place rows numbers i d) (row_at_place rows numbers j d)
    keys i d lt_i j lt_j = ap (λ (k : RouterId × PrefixValue). key_prefix_cmp k (row_key (row_at_place (slice_set rows number row) numbers j d))) (key_at (slice_index numbers i) d (cases_eq (slice_index numbers i) number)) ∙ ap (key_prefix_cmp (row_key (row_at_place rows numbers i d))) (key_at (slice_index numbers j) d (cases_eq (slice_index numbers j) number))

-- a row was added
module _ (order : Order) (rows : List RowValue) (numbers : List ℕ) (row : RowValue) (index : IsIndex (order_cmp order) rows numbers) where
  abbrev more : List RowValue
  more = rows ++ row ∷ []

  pub rises_more : Rises (order_cmp order) more numbers
  rises_more = rises_same (order_cmp order) (order_total order) rows numbers more numbers refl (λ k lt. omega (arith, index.rises.below k lt, length_push rows row)) (λ k d lt. get_or_append_left rows (row ∷ []) d (slice_index numbers k) (index.rises.below k lt)) index.rises

  pub fresh_more : position (is_row_of row.router row.mapping.eid) rows ≡ None → IsFresh more numbers (length rows)
  fresh_more none k d lt same =
      let own : row_key (slice_index_or rows (slice_index numbers k) d) ≡ row_key row = ap row_key (sym (get_or_append_left rows (row ∷ []) d (slice_index numbers k) (index.rises.below k lt))) ∙ same ∙ ap row_key (get_or_push rows row d (length rows) refl) in
      found (is_row_of row.router row.mapping.eid) rows (slice_index numbers k) d (index.rises.below k lt) ((has_key (row_key row) (slice_index_or rows (slice_index numbers k) d)).1 own) (nowhere (is_row_of row.router row.mapping.eid) rows none)

  pub index_more : (new : List ℕ) → IsPutIn order more numbers new (length rows) → IsIndex (order_cmp order) more new
  index_more new entered = record {
    rises = entered.rises;
    each = λ n lt. on_either (cases_eq n (length rows)) (λ at. subst (Contains new) (sym at) entered.here)
        (λ off. entered.others n (index.each n (omega (arith, lt, length_push rows row, off))));
  }

-- a number whose row is of a router and a prefix is that of their row
module _ (rows : List RowValue) (numbers : List ℕ) (row : RowValue) (index : IsIndex row_prefix_cmp rows numbers) where
  by_place : (number : ℕ) (o : Option ℕ) → number < length rows → is_row_of row.router row.mapping.eid (slice_index_or rows number row) ≡ true → position (is_row_of row.router row.mapping.eid) rows ≡ o → position (is_row_of row.router row.mapping.eid) rows ≡ Some number
  by_place number None lt own at = absurd (found (is_row_of row.router row.mapping.eid) rows number row lt own (nowhere (is_row_of row.router row.mapping.eid) rows at))
  by_place number (Some i) lt own at =
      let first = position-Some (is_row_of row.router row.mapping.eid) rows i row at in
      let same = either_way row_key rows (one_each rows numbers index) i number row first.0 lt ((has_key (row_key row) (slice_index_or rows i row)).0 first.1 ∙ sym ((has_key (row_key row) (slice_index_or rows number row)).0 own)) in
      at ∙ ap Some same

  pub found_here : (number : ℕ) → number < length rows → is_row_of row.router row.mapping.eid (slice_index_or rows number row) ≡ true → position (is_row_of row.router row.mapping.eid) rows ≡ Some number
  found_here number lt own = by_place number (position (is_row_of row.router row.mapping.eid) rows) lt own refl

-- the row of a router and a prefix stands where it is sought
module _ (rows : List RowValue) (numbers : List ℕ) (row : RowValue) {A : Type 0} (probe : Probe A) (place : ℕ) (seeks : (h : RowValue) → is_before probe h ≡ is_lt (row_prefix_cmp h row)) (index : IsIndex row_prefix_cmp rows numbers) (bound : IsBound probe rows numbers place) where
  abbrev is_own : RowValue → Bool
  is_own = is_row_of row.router row.mapping.eid

  stands : (i : ℕ) → i < length rows → is_own (slice_index_or rows i row) ≡ true → (place < length numbers) × (slice_index numbers place ≡ i)
  stands i lt own =
      let (p, lt_p, at) = index.each i lt in
      let named : slice_index numbers p ≡ i = number_at numbers p i lt_p at in
      let key : row_key (slice_index_or rows i row) ≡ row_key row = (has_key (row_key row) (slice_index_or rows i row)).0 own in
      let same = exact row_prefix_cmp prefix_total row probe seeks rows numbers place index.rises bound p lt_p (same_tie (row_at_place rows numbers p row) row (ap (λ (n : ℕ). row_key (slice_index_or rows n row)) named ∙ key)) in
      (omega (arith, same, lt_p), ap (λ (k : ℕ). slice_index numbers k) same ∙ named)

  absent_case : (o : Option ℕ) → position is_own rows ≡ o → ((i : ℕ) → i < length rows → is_own (slice_index_or rows i row) ≡ true → ⊥) → None ≡ o
  absent_case None at never = refl
  absent_case (Some i) at never = absurd (let first = position-Some is_own rows i row at in never i first.0 first.1)

  -- what is found there is the number of the row, or there is none
  pub settled : (o : Option ℕ) → IfSome o (λ number. position is_own rows ≡ Some number) → (o ≡ None → place < length numbers → is_own (row_at_place rows numbers place row) ≡ false) → o ≡ position is_own rows
  settled (Some number) at other = sym at
  settled None at other = absent_case (position is_own rows) refl (λ i lt own. true≢false (sym own ∙ ap (λ (n : ℕ). is_own (slice_index_or rows n row)) (sym (stands i lt own).1) ∙ other refl (stands i lt own).0))

-- where a router and a prefix have a row, its number is that of a row, and it is of them
pub own_key : (rows : List RowValue) (number : ℕ) (row : RowValue) → position (is_row_of row.router row.mapping.eid) rows ≡ Some number → (number < length rows) × (row_key (slice_index_or rows number row) ≡ row_key row)
own_key rows number row at =
    let first = position-Some (is_row_of row.router row.mapping.eid) rows number row at in
    (first.0, (has_key (row_key row) (slice_index_or rows number row)).0 first.1)

-- ---- How many rows stand before a place of their order.

abbrev Distinct : {X : Type 0} → List X → Type 0
Distinct {X} xs = AllPairs (λ (a : X) (b : X). a ≢ b) xs

-- lists without repeats that have the same elements are one list in two orders
same_members : {X : Type 0} (xs ys : List X) → Distinct xs → Distinct ys → ((x : X) → Contains xs x → Contains ys x) → ((x : X) → Contains ys x → Contains xs x) → IsPermutation xs ys
same_members [] [] apart_x apart_y there back = IsPermutation-refl []
same_members [] (y ∷ ys) apart_x apart_y there back = absurd (let held = back y (0, omega arith, refl) in omega (arith, held.1))
same_members {X} (x ∷ xs) ys apart_x apart_y there back = IsPermutation-trans (x ∷ xs) (x ∷ rest) ys (IsPermutation-cons x xs rest (same_members xs rest (λ i j d lt within. apart_x (suc i) (suc j) d (omega (arith, lt)) (omega (arith, within))) (all_pairs_remove (λ (a : X) (b : X). a ≢ b) ys at.0 at.1 apart_y) there_rest back_rest)) (IsPermutation-sym ys (x ∷ rest) moved)
  where
    at : Contains ys x
    at = there x (0, omega arith, refl)

    rest : List X
    rest = remove ys at.0

    moved : IsPermutation ys (x ∷ rest)
    moved = IsPermutation-remove ys at.0 x at.1 (sym at.2)

    apart_rest : Distinct (x ∷ rest)
    apart_rest = differ_moved (λ (y : X). y) ys (x ∷ rest) moved apart_y

    there_rest : (z : X) → Contains xs z → Contains rest z
    there_rest z (k, lt, is) = Contains-tail x rest z (λ same. apart_x 0 (suc k) z (omega arith) (omega (arith, lt)) (same ∙ sym is)) (Contains-permutation ys (x ∷ rest) z moved (there z (suc k, omega (arith, lt), is)))

    back_rest : (z : X) → Contains rest z → Contains xs z
    back_rest z (k, lt, is) = Contains-tail x xs z (λ same. apart_rest 0 (suc k) z (omega arith) (omega (arith, lt)) (same ∙ sym is)) (back z (Contains-permutation (x ∷ rest) ys z (IsPermutation-sym ys (x ∷ rest) moved) (suc k, omega (arith, lt), is)))

-- a test that passes before a place and not after it
passes_split : {X : Type 0} (p : X → Bool) (xs : List X) (k : ℕ) → k ≤ length xs → ((i : ℕ) (d : X) → i < k → p (slice_index_or xs i d) ≡ true) → ((i : ℕ) (d : X) → k ≤ i → i < length xs → p (slice_index_or xs i d) ≡ false) → length (filter p xs) ≡ k
passes_split p [] k le before after = omega (arith, le)
passes_split p (x ∷ xs) zero le before after =
    let rest = passes_split p xs zero (omega arith) (λ i d lt. absurd (omega (arith, lt))) (λ i d low lt. after (suc i) d (omega arith) (omega (arith, lt))) in
    let head : p x ≡ false = after 0 x (omega arith) (omega arith) in
    ap (λ (b : Bool). length (cond b (x ∷ filter p xs) (filter p xs))) head ∙ rest
passes_split p (x ∷ xs) (suc k) le before after =
    let rest = passes_split p xs k (omega (arith, le)) (λ i d lt. before (suc i) d (omega (arith, lt))) (λ i d low lt. after (suc i) d (omega (arith, low)) (omega (arith, lt))) in
    let head : p x ≡ true = before 0 x (omega arith) in
    ap (λ (b : Bool). length (cond b (x ∷ filter p xs) (filter p xs))) head ∙ ap suc rest

count_split : {X : Type 0} (p : X → Bool) (xs : List X) (k : ℕ) → k ≤ length xs → ((i : ℕ) (d : X) → i < k → p (slice_index_or xs i d) ≡ true) → ((i : ℕ) (d : X) → k ≤ i → i < length xs → p (slice_index_or xs i d) ≡ false) → count_by p xs ≡ k
count_split p xs k le before after = sym (length-filter p xs) ∙ passes_split p xs k le before after

module _ (rows : List RowValue) (numbers : List ℕ) (d : RowValue) (index : IsIndex row_prefix_cmp rows numbers) (apart_rows : (i j : ℕ) (e : RowValue) → i < j → j < length rows → slice_index_or rows i e ≢ slice_index_or rows j e) where
  abbrev listed : List RowValue
  listed = map (λ (n : ℕ). slice_index_or rows n d) numbers

  listed_at : (k : ℕ) (e : RowValue) → k < length numbers → slice_index_or listed k e ≡ row_at_place rows numbers k d
  listed_at k e lt = get_or-map (λ (n : ℕ). slice_index_or rows n d) numbers k 0 e lt

  apart_listed : Distinct listed
  apart_listed i j e lt within same =
      let lt_j : j < length numbers = omega (arith, within, length-map numbers (λ (n : ℕ). slice_index_or rows n d)) in
      let rising = index.rises.rising i j d lt lt_j in
      let alike : row_at_place rows numbers i d ≡ row_at_place rows numbers j d = sym (listed_at i e (omega (arith, lt, lt_j))) ∙ same ∙ listed_at j e lt_j in
      absurd (let clash : ◌≡◌ {A = Ordering} Less _ = sym rising ∙ ap (λ (h : RowValue). row_prefix_cmp h (row_at_place rows numbers j d)) alike ∙ itself row_prefix_cmp prefix_total (row_at_place rows numbers j d) in cc)

  there : (h : RowValue) → Contains rows h → Contains listed h
  there h (n, lt, is) =
      let (k, lt_k, at) = index.each n lt in
      let long : k < length listed = omega (arith, lt_k, length-map numbers (λ (n : ℕ). slice_index_or rows n d)) in
      (k, long, listed_at k h lt_k ∙ ap (λ (m : ℕ). slice_index_or rows m d) (number_at numbers k n lt_k at) ∙ get_or_default rows n d h lt ∙ is)

  back : (h : RowValue) → Contains listed h → Contains rows h
  back h (k, lt, is) =
      let lt_k : k < length numbers = omega (arith, lt, length-map numbers (λ (n : ℕ). slice_index_or rows n d)) in
      (slice_index numbers k, index.rises.below k lt_k, get_or_default rows (slice_index numbers k) h d (index.rises.below k lt_k) ∙ sym (listed_at k h lt_k) ∙ is)

  moved : IsPermutation rows listed
  moved = same_members rows listed apart_rows apart_listed there back

  long_numbers : length numbers ≡ length rows
  long_numbers = sym (length-map numbers (λ (n : ℕ). slice_index_or rows n d)) ∙ length_permutation rows listed moved

  count_at : (p : RowValue → Bool) (place : ℕ) → place ≤ length numbers → ((i : ℕ) (e : RowValue) → i < place → p (row_at_place rows numbers i e) ≡ true) → ((i : ℕ) (e : RowValue) → place ≤ i → i < length numbers → p (row_at_place rows numbers i e) ≡ false) → place ≡ count_by p rows
  count_at p place le before after =
      let long = length-map numbers (λ (n : ℕ). slice_index_or rows n d) in
      let split = count_split p listed place (omega (arith, le, long)) (λ i e lt. ap p (listed_at i e (omega (arith, lt, le))) ∙ before i d lt) (λ i e low lt. (let within : i < length numbers = omega (arith, lt, long) in ap p (listed_at i e within) ∙ after i d low within)) in
      sym split ∙ sum_by-IsPermutation (λ h. cond (p h) 1 0) rows listed moved

differ : (rows : List RowValue) (numbers : List ℕ) → IsIndex row_prefix_cmp rows numbers → Distinct rows
differ rows numbers index i j d lt within same = one_each rows numbers index i j d lt within (ap row_key same)

-- as many rows pass a test as stand before a place, where those pass and no other
pub count_rows : (rows : List RowValue) (numbers : List ℕ) (p : RowValue → Bool) (place : ℕ) → IsIndex row_prefix_cmp rows numbers → place ≤ length numbers → ((i : ℕ) (e : RowValue) → i < place → p (row_at_place rows numbers i e) ≡ true) → ((i : ℕ) (e : RowValue) → place ≤ i → i < length numbers → p (row_at_place rows numbers i e) ≡ false) → place ≡ count_by p rows
count_rows [] numbers p place index le before after =
    let none : 0 < length numbers → ⊥ = λ some. (let lt = index.rises.below 0 some in omega (arith, lt)) in
    omega (arith, le, none)
count_rows (d ∷ rows) numbers p place index le before after = count_at (d ∷ rows) numbers d index (differ (d ∷ rows) numbers index) p place le before after

-- an index is as long as the rows are many
pub long_index : (rows : List RowValue) (numbers : List ℕ) → IsIndex row_prefix_cmp rows numbers → length numbers ≡ length rows
long_index [] numbers index =
    let none : 0 < length numbers → ⊥ = λ some. (let lt = index.rises.below 0 some in omega (arith, lt)) in
    omega (arith, none)
long_index (d ∷ rows) numbers index = long_numbers (d ∷ rows) numbers d index (differ (d ∷ rows) numbers index)

-- ---- Room for rows: the least of three.

-- room in all is room in each
pub room_each : {X Y Z : Type 0} (rows : Vec X Z) (prefixes deadlines : VecDeque Y Z) (spare : ℕ) → spare_of rows prefixes deadlines ≡ spare → 0 < spare → (vec_len rows < vec_capacity rows) × (deque_len prefixes < deque_capacity prefixes) × (deque_len deadlines < deque_capacity deadlines)
room_each rows prefixes deadlines spare is some = (omega (arith, is, some), omega (arith, is, some), omega (arith, is, some))

-- room in each is room in all
pub room_all : (more rows rows_len prefixes prefixes_len deadlines deadlines_len : ℕ) → rows_len + more ≤ rows → prefixes_len + more ≤ prefixes → deadlines_len + more ≤ deadlines → more ≤ min (rows - rows_len) (min (prefixes - prefixes_len) (deadlines - deadlines_len))
room_all more rows rows_len prefixes prefixes_len deadlines deadlines_len a b c = omega (arith, a, b, c)

-- one less in each is one less in all
pub room_less : (rows prefixes deadlines spare new_rows new_prefixes new_deadlines : ℕ) → min rows (min prefixes deadlines) ≡ spare → rows ≤ new_rows + 1 → prefixes ≤ new_prefixes + 1 → deadlines ≤ new_deadlines + 1 → spare ≤ min new_rows (min new_prefixes new_deadlines) + 1
room_less rows prefixes deadlines spare new_rows new_prefixes new_deadlines is a b c = omega (arith, is, a, b, c)

-- the same room, of numbers that were read
pub room_read : (a b c d e f rows rows_len prefixes prefixes_len deadlines deadlines_len spare : ℕ) → a ≡ rows → b ≡ rows_len → c ≡ prefixes → d ≡ prefixes_len → e ≡ deadlines → f ≡ deadlines_len → min (rows - rows_len) (min (prefixes - prefixes_len) (deadlines - deadlines_len)) ≡ spare → min (a - b) (min (c - d) (e - f)) ≡ spare
room_read a b c d e f rows rows_len prefixes prefixes_len deadlines deadlines_len spare at_a at_b at_c at_d at_e at_f is = rw (at_a, at_b, at_c, at_d, at_e, at_f) is

-- what fits the first two fits all where it fits the third
pub fits_last : (more rows prefixes deadlines spare : ℕ) → min rows (min prefixes deadlines) ≡ spare → (more ≤ rows) × (more ≤ prefixes) → nat_le more deadlines ≡ nat_le more spare
fits_last more rows prefixes deadlines spare is fits = grind (arith, nat_tests)

-- what doesn't fit the first doesn't fit all, nor what fits the first and not the second
pub fits_not_first : (more rows prefixes deadlines spare : ℕ) → min rows (min prefixes deadlines) ≡ spare → rows < more → nat_le more rows ≡ nat_le more spare
fits_not_first more rows prefixes deadlines spare is over = lt-leb more rows over ∙ sym (lt-leb more spare (omega (arith, is, over)))

pub fits_not_second : (more rows prefixes deadlines spare : ℕ) → min rows (min prefixes deadlines) ≡ spare → more ≤ rows → ((more ≤ rows) × (prefixes < more)) ⊎ (rows < more) → nat_le more prefixes ≡ nat_le more spare
fits_not_second more rows prefixes deadlines spare is fits (inl (le, over)) = lt-leb more prefixes over ∙ sym (lt-leb more spare (omega (arith, is, over)))
fits_not_second more rows prefixes deadlines spare is fits (inr over) = absurd (omega (arith, fits, over))

-- what stayed is at most one more
pub one_more : (n : ℕ) → n ≤ n + 1
one_more n = omega arith

-- Numbers of rows in rising order: what is sought in them, and what an edit leaves.
use Rattle.std.proofs.Common.{◌≡◌, ◌≢◌, ◌⊎◌, inl, inr, ℕ, suc, ◌+◌, ◌-◌, ◌<◌, ◌≤◌, true, false, List, [], ◌∷◌, ◌++◌, length, slice_index, slice_index_or, Option, Some, None, Result, Ok, Err, refl, sym, ap, ◌∙◌, subst, true≢false, arith, is_some, slice_set, ◌*◌, ◌^◌}
use Rattle.std.proofs.lemmas.Bool.{cases_eq, cases_lt, cases_order}
use Rattle.std.proofs.lemmas.List.{get_or_read, get_or_default, get_or-take, length-set, length-take-le, get_or-set_same, get_or-set_other}
use Rattle.std.proofs.lemmas.List.Edits.{insert_end, length-insert, length-remove, get_or-insert_below, get_or-insert_at, get_or-insert_above, get_or-remove_below, get_or-remove_above}
use Rattle.std.proofs.lemmas.List.Sorted.{IsPermutation-insert, IsPermutation-remove, Contains-permutation}
use Rattle.std.proofs.lemmas.Map.Lookups.{exact_pairs}
use Rattle.std.proofs.lemmas.Map.Made.{Contains-tail}
use Rattle.std.proofs.lemmas.Nat.{pow-add}
use Rattle.std.proofs.Math.Nat.{mul-le-mul_left}
use Rattle.std.specs.List.{Contains, insert, remove, swap_remove}
use Rattle.std.specs.Option.{OnSome, IsSome}
use Rattle.std.specs.Result.{OnOk, OnErr}
use Rattle.std.specs.Ordering.{is_lt, is_ge, nat_cmp, ordering_reverse, ordering_then}
use Rattle.std.specs.Cmp.{IsTotalOrder, on_total, then_total, nat_cmp_total}
use Rattle.std.specs.declared.cmp.Ordering.{Ordering}
use Rattle.std.specs.declared.cmp.Ordering.TheVariants.{Less, Equal, Greater}
use Rattle.lisp_records.specs.Address.{PrefixValue, prefix_cmp}
use Rattle.lisp_records.specs.Router.{router_cmp}
use Rattle.lisp_records.specs.Row.{RowValue}
use Rattle.lisp_lookup.specs.declared.order.Order.{Order}
use Rattle.lisp_lookup.specs.declared.order.Order.TheVariants.{ByPrefix, ByDeadline}
use Rattle.lisp_lookup.specs.declared.probe.Probe.{Probe}
use Rattle.lisp_lookup.specs.declared.probe.Probe.TheVariants.{Prefix}
use Rattle.lisp_lookup.specs.Table.{row_key}
use Rattle.lisp_lookup.specs.Index.{deadline, row_prefix_cmp, row_deadline_cmp, order_cmp, is_before, row_at_place, Falls, IsBound, Rises, IsIndex, Indexed, IsTakenOut, IsPutIn, IsFresh, IsRenumbered}
use Rattle.lisp_lookup.proofs.Apart.{on_either}
use Rattle.lisp_lookup.proofs.AnswerLaws.{less}
use Rattle.lisp_lookup.proofs.Orders.{block_total, router_total, same_block, same_router}
use Rattle.lisp_lookup.proofs.TableLaws.{less_from}
use Rattle.lisp_policy.proofs.Found.{not_true}

-- what follows from an answer that can't be an error
pub made : {T E P Q : Type 0} (result : Result T E) → OnOk result P → OnErr result Q → (Q → ⊥) → P
made (Ok x) holds fails never = holds
made (Err x) holds fails never = absurd (never fails)

-- what follows from an answer that there is
pub taken : {T P : Type 0} (result : Option T) → OnSome result P → IsSome result → P
taken (Some x) holds some = holds
taken None holds some = absurd (true≢false (sym some))

-- the number at a place, read with any default
pub number_at : (numbers : List ℕ) (k n : ℕ) → k < length numbers → slice_index_or numbers k n ≡ n → slice_index numbers k ≡ n
number_at numbers k n lt at = get_or_default numbers k 0 n lt ∙ at

-- no rows
none_index : (cmp : RowValue → RowValue → Ordering) (rows : List RowValue) (numbers : List ℕ) → rows ≡ [] → numbers ≡ [] → IsIndex cmp rows numbers
none_index cmp rows numbers no_rows none = record {
  rises = record {
    below = λ k lt. absurd (omega (arith, lt, ap length none));
    rising = λ i j d lt within. absurd (omega (arith, within, ap length none));
  };
  each = λ n lt. absurd (omega (arith, lt, ap length no_rows));
}

pub none_indexed : (rows : List RowValue) (prefixes deadlines : List ℕ) → rows ≡ [] → prefixes ≡ [] → deadlines ≡ [] → Indexed rows prefixes deadlines
none_indexed rows prefixes deadlines no_rows none_by_prefix none_by_deadline = record {
  eids = λ k d lt. absurd (omega (arith, lt, ap length no_rows));
  by_prefix = none_index row_prefix_cmp rows prefixes no_rows none_by_prefix;
  by_deadline = none_index row_deadline_cmp rows deadlines no_rows none_by_deadline;
}

-- equal lists
pub indexed_same : {rows new_rows : List RowValue} {prefixes new_prefixes deadlines new_deadlines : List ℕ} → new_rows ≡ rows → new_prefixes ≡ prefixes → new_deadlines ≡ deadlines → Indexed rows prefixes deadlines → Indexed new_rows new_prefixes new_deadlines
indexed_same {rows} {new_rows} {prefixes} {new_prefixes} {deadlines} {new_deadlines} same_rows same_prefixes same_deadlines is = subst (λ (r : List RowValue). Indexed r new_prefixes new_deadlines) (sym same_rows) (subst (λ (p : List ℕ). Indexed rows p new_deadlines) (sym same_prefixes) (subst (λ (d : List ℕ). Indexed rows prefixes d) (sym same_deadlines) is))

-- a number that was read is that of a row
pub number_within : (cmp : RowValue → RowValue → Ordering) (rows : List RowValue) (numbers : List ℕ) (k number : ℕ) → Rises cmp rows numbers → k < length numbers → number ≡ slice_index_or numbers k number → number < length rows
number_within cmp rows numbers k number rises lt read = omega (arith, number_at numbers k number lt (sym read), rises.below k lt)

-- a row that was read by such a number
pub row_read : (cmp : RowValue → RowValue → Ordering) (rows : List RowValue) (numbers : List ℕ) (k number : ℕ) (x : RowValue) → Rises cmp rows numbers → k < length numbers → number ≡ slice_index_or numbers k number → x ≡ slice_index_or rows number x → (d : RowValue) → x ≡ row_at_place rows numbers k d
row_read cmp rows numbers k number x rises lt read at = get_or_read rows (slice_index numbers k) x (rises.below k lt) (at ∙ ap (λ (n : ℕ). slice_index_or rows n x) (sym (number_at numbers k number lt (sym read))))

-- the first number is that of a row
pub first_within : (cmp : RowValue → RowValue → Ordering) (rows : List RowValue) (numbers : List ℕ) (number : ℕ) → Rises cmp rows numbers → 0 < length numbers → number ≡ slice_index_or numbers 0 number → number < length rows
first_within cmp rows numbers number = number_within cmp rows numbers 0 number

-- what an edit took each place from
abbrev pub Skips : ℕ → ℕ → ℕ → Type 0
Skips place k source = ((k < place) × (source ≡ k)) ⊎ ((place ≤ k) × (source ≡ k + 1))

pub removed_from : (xs : List ℕ) (place k : ℕ) → place < length xs → (source : ℕ) × Skips place k source × (slice_index (remove xs place) k ≡ slice_index xs source)
removed_from xs place k lt = on_either (cases_lt k place)
    (λ below. (k, inl (below, refl), get_or-remove_below xs place 0 k below lt))
    (λ above. (k + 1, inr (above, refl), get_or-remove_above xs place 0 k above lt))

abbrev pub Makes : List ℕ → ℕ → ℕ → ℕ → ℕ → Type 0
Makes xs place n k got = ((k < place) × (got ≡ slice_index xs k)) ⊎ (((k ≡ place) × (got ≡ n)) ⊎ ((place < k) × (got ≡ slice_index xs (k - 1))))

pub inserted_from : (xs : List ℕ) (place n k : ℕ) → place ≤ length xs → Makes xs place n k (slice_index (insert xs place n) k)
inserted_from xs place n k le = grind (arith, cases_order k place, get_or-insert_at xs place n 0, get_or-insert_below xs place n 0 k, get_or-insert_above xs place n 0 (k - 1))

pub prefix_total : IsTotalOrder row_prefix_cmp
prefix_total = then_total (on_total (λ (h : RowValue). h.mapping.eid) block_total) (on_total (λ (h : RowValue). h.router) router_total)

pub order_total : (order : Order) → IsTotalOrder (order_cmp order)
order_total ByPrefix = prefix_total
order_total ByDeadline = then_total (on_total deadline nat_cmp_total) prefix_total

-- rows that tie are of one router and prefix
prefix_tie : (a b : RowValue) → row_prefix_cmp a b ≡ Equal → row_key a ≡ row_key b
prefix_tie a b tie =
    let parts = exact_pairs prefix_cmp router_cmp same_block same_router (a.mapping.eid, a.router) (b.mapping.eid, b.router) tie in
    λ i. ((parts i).1, (parts i).0)

then_tie : (first second : Ordering) → ordering_then first second ≡ Equal → second ≡ Equal
then_tie first second tie = grind arith

pub order_tie : (order : Order) (a b : RowValue) → order_cmp order a b ≡ Equal → row_key a ≡ row_key b
order_tie ByPrefix a b tie = prefix_tie a b tie
order_tie ByDeadline a b tie = prefix_tie a b (then_tie (nat_cmp (deadline a) (deadline b)) (row_prefix_cmp a b) tie)

not_ge : (o : Ordering) → is_ge o ≡ false → o ≡ Less
not_ge o before = grind arith

reversed : (o : Ordering) → o ≡ ordering_reverse o → o ≡ Equal
reversed o turned = grind arith

-- what is compared with itself ties
pub itself : {K : Type 0} (cmp : K → K → Ordering) (total : IsTotalOrder cmp) (x : K) → cmp x x ≡ Equal
itself cmp total x = reversed (cmp x x) (total.antisymm x x)

module _ (cmp : RowValue → RowValue → Ordering) (total : IsTotalOrder cmp) where
  never : (x : RowValue) → cmp x x ≢ Less
  never x below = absurd (let clash : ◌≡◌ {A = Ordering} Less Equal = sym below ∙ itself cmp total x in cc)

  apart : (rows : List RowValue) (numbers : List ℕ) (i j : ℕ) (d : RowValue) → Rises cmp rows numbers → i < j → j < length numbers → slice_index numbers i ≢ slice_index numbers j
  apart rows numbers i j d rises lt within same = never (row_at_place rows numbers j d) (subst (λ (n : ℕ). cmp (slice_index_or rows n d) (row_at_place rows numbers j d) ≡ Less) same (rises.rising i j d lt within))

  -- a number stands at one place
  pub one_place : (rows : List RowValue) (numbers : List ℕ) (i j : ℕ) (d : RowValue) → Rises cmp rows numbers → i < length numbers → j < length numbers → slice_index numbers i ≡ slice_index numbers j → i ≡ j
  one_place rows numbers i j d rises lt_i lt_j same =
      let not_below : i < j → ⊥ = λ below. apart rows numbers i j d rises below lt_j same in
      let not_above : j < i → ⊥ = λ above. apart rows numbers j i d rises above lt_i (sym same) in
      omega arith

  -- numbers of the same rows
  pub rises_same : (rows : List RowValue) (numbers : List ℕ) (moved : List RowValue) (renamed : List ℕ) → length renamed ≡ length numbers → ((k : ℕ) → k < length renamed → slice_index renamed k < length moved) → ((k : ℕ) (d : RowValue) → k < length renamed → row_at_place moved renamed k d ≡ row_at_place rows numbers k d) → Rises cmp rows numbers → Rises cmp moved renamed
  rises_same rows numbers moved renamed long below same rises = record {
    below = below;
    rising = λ i j d lt within. (let is = rises.rising i j d lt (omega (arith, within, long)) in ap (λ (h : RowValue). cmp h (row_at_place moved renamed j d)) (same i d (omega (arith, lt, within))) ∙ ap (λ (h : RowValue). cmp (row_at_place rows numbers i d) h) (same j d within) ∙ is);
  }

  pub rises_remove : (rows : List RowValue) (numbers : List ℕ) (place : ℕ) → place < length numbers → Rises cmp rows numbers → Rises cmp rows (remove numbers place)
  rises_remove rows numbers place lt rises = record {
    below = λ k within. (let from = removed_from numbers place k lt in subst (λ (n : ℕ). n < length rows) (sym from.2) (rises.below from.0 (omega (arith, from.1, within, length-remove numbers place lt))));
    rising = λ i j d before within.
        (let a = removed_from numbers place i lt in
        let b = removed_from numbers place j lt in
        ap (λ (n : ℕ). cmp (slice_index_or rows n d) (row_at_place rows (remove numbers place) j d)) a.2 ∙ ap (λ (n : ℕ). cmp (row_at_place rows numbers a.0 d) (slice_index_or rows n d)) b.2 ∙ rises.rising a.0 b.0 d (omega (arith, a.1, b.1, before)) (omega (arith, b.1, within, length-remove numbers place lt)));
  }

  module _ (rows : List RowValue) (numbers : List ℕ) (place n : ℕ) (le : place ≤ length numbers) (row : n < length rows) (below : (i : ℕ) (d : RowValue) → i < place → cmp (row_at_place rows numbers i d) (slice_index_or rows n d) ≡ Less) (above : (i : ℕ) (d : RowValue) → place ≤ i → i < length numbers → cmp (slice_index_or rows n d) (row_at_place rows numbers i d) ≡ Less) (rises : Rises cmp rows numbers) where
    within_case : (k : ℕ) (got : ℕ) → k < length numbers + 1 → Makes numbers place n k got → got < length rows
    within_case k got lt made = grind (arith, rises.below k, rises.below (k - 1))

    pair_case : (i j a b : ℕ) (d : RowValue) → i < j → j < length numbers + 1 → Makes numbers place n i a → Makes numbers place n j b → cmp (slice_index_or rows a d) (slice_index_or rows b d) ≡ Less
    pair_case i j a b d lt within x y = grind (arith, rises.rising i j d, rises.rising i (j - 1) d, rises.rising (i - 1) (j - 1) d, below i d, above (j - 1) d)

    pub rises_insert : Rises cmp rows (insert numbers place n)
    rises_insert = record {
      below = λ k lt. within_case k (slice_index (insert numbers place n) k) (omega (arith, lt, length-insert numbers place n le)) (inserted_from numbers place n k le);
      rising = λ i j d lt within. pair_case i j (slice_index (insert numbers place n) i) (slice_index (insert numbers place n) j) d lt (omega (arith, within, length-insert numbers place n le)) (inserted_from numbers place n i le) (inserted_from numbers place n j le);
    }

  -- a row is sought by its order
  pub falls : (x : RowValue) (rows : List RowValue) (numbers : List ℕ) → Rises cmp rows numbers → (i j : ℕ) (d : RowValue) → i < j → j < length numbers → is_lt (cmp (row_at_place rows numbers j d) x) ≡ true → is_lt (cmp (row_at_place rows numbers i d) x) ≡ true
  falls x rows numbers rises i j d lt within before = ap is_lt (total.trans (row_at_place rows numbers i d) (row_at_place rows numbers j d) x (rises.rising i j d lt within) (less (cmp (row_at_place rows numbers j d) x) before))

  module _ (x : RowValue) {A : Type 0} (probe : Probe A) (seeks : (h : RowValue) → is_before probe h ≡ is_lt (cmp h x)) where
    module _ (rows : List RowValue) (numbers : List ℕ) (place : ℕ) (rises : Rises cmp rows numbers) (bound : IsBound probe rows numbers place) where
      -- a row that ties with what is sought is found
      pub exact : (p : ℕ) → p < length numbers → cmp (row_at_place rows numbers p x) x ≡ Equal → place ≡ p
      exact p lt tie =
          let at_p = row_at_place rows numbers p x in
          let here = row_at_place rows numbers place x in
          grind (arith, cases_order place p, rises.rising place p x, bound.after place x, bound.before p x, seeks here, seeks at_p, total.antisymm here x, total.antisymm at_p here, total.congr at_p x here tie)

      pub gap_below : (i : ℕ) (d : RowValue) → i < place → cmp (row_at_place rows numbers i d) x ≡ Less
      gap_below i d lt = less (cmp (row_at_place rows numbers i d) x) (sym (seeks (row_at_place rows numbers i d)) ∙ bound.before i d lt)

      pub gap_above : ((i : ℕ) (d : RowValue) → i < length numbers → cmp x (row_at_place rows numbers i d) ≢ Equal) → (i : ℕ) (d : RowValue) → place ≤ i → i < length numbers → cmp x (row_at_place rows numbers i d) ≡ Less
      gap_above differ i d le lt = less_from (cmp x (row_at_place rows numbers i d)) (ap is_lt (sym (total.antisymm (row_at_place rows numbers i d) x)) ∙ sym (seeks (row_at_place rows numbers i d)) ∙ bound.after i d le lt) (differ i d lt)

module _ (order : Order) (rows : List RowValue) (numbers : List ℕ) (number : ℕ) (x : RowValue) (rises : Rises (order_cmp order) rows numbers) where
  -- a number that is held is found
  pub found_place : {A : Type 0} (probe : Probe A) (place : ℕ) → ((h : RowValue) → is_before probe h ≡ is_lt (order_cmp order h x)) → IsBound probe rows numbers place → Contains numbers number → x ≡ slice_index_or rows number x → (place < length numbers) × (slice_index numbers place ≡ number)
  found_place probe place seeks bound (p, lt, at) read =
      let named = number_at numbers p number lt at in
      let tie : order_cmp order (row_at_place rows numbers p x) x ≡ Equal = ap (λ (n : ℕ). order_cmp order (slice_index_or rows n x) x) named ∙ ap (λ (h : RowValue). order_cmp order h x) (sym read) ∙ itself (order_cmp order) (order_total order) x in
      let same = exact (order_cmp order) (order_total order) x probe seeks rows numbers place rises bound p lt tie in
      (omega (arith, same, lt), ap (λ (k : ℕ). slice_index numbers k) same ∙ named)

  -- no row ties with one that is of another router or prefix
  no_tie : IsFresh rows numbers number → x ≡ slice_index_or rows number x → (i : ℕ) (d : RowValue) → i < length numbers → order_cmp order x (row_at_place rows numbers i d) ≢ Equal
  no_tie fresh read i d lt tie =
      let same : row_at_place rows numbers i d ≡ row_at_place rows numbers i x = get_or_default rows (slice_index numbers i) d x (rises.below i lt) in
      fresh i x lt (ap row_key (sym same) ∙ sym (order_tie order x (row_at_place rows numbers i d) tie) ∙ ap row_key read)

  pub left_of : (place : ℕ) → place < length numbers → slice_index numbers place ≡ number → IsTakenOut order rows numbers (remove numbers place) number
  left_of place lt was = record {
    rises = rises_remove (order_cmp order) (order_total order) rows numbers place lt rises;
    others = λ n held other. Contains-tail number (remove numbers place) n (λ same. other (sym same)) (Contains-permutation numbers (number ∷ remove numbers place) n (IsPermutation-remove numbers place number lt (sym was ∙ get_or_default numbers place 0 number lt)) held);
    gone = λ k within same.
        (let from = removed_from numbers place k lt in
        let at = one_place (order_cmp order) (order_total order) rows numbers from.0 place x rises (omega (arith, from.1, within, length-remove numbers place lt)) lt (sym from.2 ∙ same ∙ sym was) in
        omega (arith, from.1, at));
  }

  -- a number that is put between the lesser and the greater rows
  module _ (place : ℕ) (within : place ≤ length numbers) (below : (i : ℕ) (d : RowValue) → i < place → order_cmp order (row_at_place rows numbers i d) x ≡ Less) (above : (i : ℕ) (d : RowValue) → place ≤ i → i < length numbers → order_cmp order x (row_at_place rows numbers i d) ≡ Less) (row : number < length rows) (read : x ≡ slice_index_or rows number x) where
    known : (d : RowValue) → x ≡ slice_index_or rows number d
    known = get_or_read rows number x row read

    moved : (n : ℕ) → Contains (number ∷ numbers) n → Contains (insert numbers place number) n
    moved n held = Contains-permutation (number ∷ numbers) (insert numbers place number) n (IsPermutation-insert numbers place number) held

    entered : IsPutIn order rows numbers (insert numbers place number) number
    entered = record {
      rises = rises_insert (order_cmp order) (order_total order) rows numbers place number within row (λ i d lt. ap (order_cmp order (row_at_place rows numbers i d)) (sym (known d)) ∙ below i d lt) (λ i d le lt. ap (λ (h : RowValue). order_cmp order h (row_at_place rows numbers i d)) (sym (known d)) ∙ above i d le lt) rises;
      others = λ n held. moved n (suc held.0, omega (arith, held.1), held.2);
      here = moved number (0, omega arith, refl);
    }

  pub entered_at : {A : Type 0} (probe : Probe A) (place : ℕ) → ((h : RowValue) → is_before probe h ≡ is_lt (order_cmp order h x)) → IsBound probe rows numbers place → number < length rows → IsFresh rows numbers number → x ≡ slice_index_or rows number x → IsPutIn order rows numbers (insert numbers place number) number
  entered_at probe place seeks bound row fresh read = entered place bound.within (gap_below (order_cmp order) (order_total order) x probe seeks rows numbers place rises bound) (gap_above (order_cmp order) (order_total order) x probe seeks rows numbers place rises bound (no_tie fresh read)) row read

  -- a row that stands behind all others
  pub entered_last : ((i : ℕ) (d : RowValue) → i < length numbers → order_cmp order (row_at_place rows numbers i d) x ≡ Less) → number < length rows → x ≡ slice_index_or rows number x → IsPutIn order rows numbers (numbers ++ number ∷ []) number
  entered_last below row read = subst (λ (new : List ℕ). IsPutIn order rows numbers new number) (insert_end numbers number) (entered (length numbers) (omega arith) below (λ i d le lt. absurd (omega (arith, le, lt))) row read)

  -- it does so where it stands behind the last one
  pub behind_last : (k last : ℕ) (h : RowValue) → k + 1 ≡ length numbers → last ≡ slice_index_or numbers k last → h ≡ slice_index_or rows last h → is_ge (order_cmp order h x) ≡ false → (i : ℕ) (d : RowValue) → i < length numbers → order_cmp order (row_at_place rows numbers i d) x ≡ Less
  behind_last k last h end last_read h_read before i d lt = on_either (cases_eq i k)
      (λ same. subst (λ (j : ℕ). order_cmp order (row_at_place rows numbers j d) x ≡ Less) (sym same) here)
      (λ other. (order_total order).trans (row_at_place rows numbers i d) (row_at_place rows numbers k d) x (rises.rising i k d (omega (arith, lt, other, end)) (omega (arith, end))) here)
    where
      here : order_cmp order (row_at_place rows numbers k d) x ≡ Less
      here = ap (λ (a : RowValue). order_cmp order a x) (sym (row_read (order_cmp order) rows numbers k last h rises (omega (arith, end)) last_read h_read d)) ∙ not_ge (order_cmp order h x) before

prefix_case : (a b eid : PrefixValue) (first second : Ordering) → prefix_cmp a b ≡ first → ordering_then first second ≡ Less → is_lt (prefix_cmp b eid) ≡ true → is_lt (prefix_cmp a eid) ≡ true
prefix_case a b eid Less second is up before = ap is_lt (block_total.trans a b eid is (less (prefix_cmp b eid) before))
prefix_case a b eid Equal second is up before = ap is_lt (block_total.congr a b eid is) ∙ before
prefix_case a b eid Greater second is up before = absurd cc

-- a prefix is sought in the order by prefix
pub falls_prefix : (eid : PrefixValue) (rows : List RowValue) (numbers : List ℕ) → Rises row_prefix_cmp rows numbers → Falls {A = Unit {0}} (Prefix eid) rows numbers
falls_prefix eid rows numbers rises i j d lt within before =
    let a = row_at_place rows numbers i d in
    let b = row_at_place rows numbers j d in
    prefix_case a.mapping.eid b.mapping.eid eid (prefix_cmp a.mapping.eid b.mapping.eid) (router_cmp a.router b.router) refl (rises.rising i j d lt within) before

-- the number at a place was taken out
pub left_at : (order : Order) (rows : List RowValue) (numbers : List ℕ) (number place : ℕ) → Rises (order_cmp order) rows numbers → number < length rows → place < length numbers → slice_index numbers place ≡ number → IsTakenOut order rows numbers (remove numbers place) number
left_at order [] numbers number place rises row lt was = absurd (omega (arith, row))
left_at order (x ∷ xs) numbers number place rises row lt was = left_of order (x ∷ xs) numbers number x rises place lt was

-- an answer that there is none has nothing to show
pub some_is_found : {X P : Type 0} (x : X) → ◌≡◌ {A = Option X} (Some x) None → P
some_is_found x clash = absurd (true≢false (ap is_some clash))

-- what is below an end is at most the end
pub below_most : (i n : ℕ) → i < n → i ≤ n
below_most i n lt = omega (arith, lt)

-- ---- What is left of rows and their orders where the last row takes the number of one that is taken out.

module _ (rows : List RowValue) (number : ℕ) (d : RowValue) (within : number < length rows) where
  abbrev last : ℕ
  last = length rows - 1

  abbrev left_rows : List RowValue
  left_rows = swap_remove rows number d

  abbrev filled : List RowValue
  filled = slice_set rows number (slice_index_or rows last d)

  pub length_moved : length left_rows + 1 ≡ length rows
  length_moved = omega (arith, length-take-le last filled (omega (arith, length-set rows number (slice_index_or rows last d))))

  moved_other : (k : ℕ) (e : RowValue) → k ≢ number → k < last → slice_index_or left_rows k e ≡ slice_index_or rows k e
  moved_other k e other lt = get_or-take last filled k e lt ∙ get_or-set_other rows number k (slice_index_or rows last d) e other

  moved_here : (e : RowValue) → number < last → slice_index_or left_rows number e ≡ slice_index_or rows last e
  moved_here e lt = get_or-take last filled number e lt ∙ get_or-set_same rows number (slice_index_or rows last d) e within ∙ get_or_default rows last d e (omega (arith, within))

  module _ (order : Order) (old : List ℕ) (index : IsIndex (order_cmp order) rows old) where
    -- the last row was taken out
    pub without_last : (new : List ℕ) → number ≡ last → IsTakenOut order rows old new number → IsIndex (order_cmp order) left_rows new
    without_last new at left = record {
      rises = rises_same (order_cmp order) (order_total order) rows new left_rows new refl (λ k lt. omega (arith, below k lt, length_moved)) (λ k e lt. moved_other (slice_index new k) e (left.gone k lt) (below k lt)) left.rises;
      each = λ n lt. left.others n (index.each n (omega (arith, lt, length_moved))) (λ same. omega (arith, same, at, lt, length_moved));
    }
      where
        below : (k : ℕ) → k < length new → slice_index new k < last
        below k lt = (let other = left.gone k lt in omega (arith, left.rises.below k lt, other, at))

    -- another row was taken out, and the last one has its number
    module _ (mid new : List ℕ) (other : number ≢ last) (left : IsTakenOut order rows old mid number) (renamed : IsRenumbered mid new last number) where
      long : length new ≡ length mid
      long = ap length renamed.is ∙ length-set mid renamed.place number

      here : slice_index new renamed.place ≡ number
      here = ap (λ (l : List ℕ). slice_index l renamed.place) renamed.is ∙ get_or-set_same mid renamed.place number 0 renamed.within

      there : (k : ℕ) → k ≢ renamed.place → slice_index new k ≡ slice_index mid k
      there k off = ap (λ (l : List ℕ). slice_index l k) renamed.is ∙ get_or-set_other mid renamed.place k number 0 off

      below_other : (k : ℕ) → k < length mid → k ≢ renamed.place → slice_index mid k < last
      below_other k lt off =
          let not_last : slice_index mid k ≢ last = λ same. off (one_place (order_cmp order) (order_total order) rows mid k renamed.place d left.rises lt renamed.within (same ∙ sym renamed.was)) in
          omega (arith, left.rises.below k lt, not_last)

      below : (k : ℕ) → k < length new → slice_index new k < length left_rows
      below k lt = grind (arith, cases_eq k renamed.place, here, there k, below_other k, long, length_moved, other, within)

      same_row : (k : ℕ) (e : RowValue) → k < length new → row_at_place left_rows new k e ≡ row_at_place rows mid k e
      same_row k e lt = on_either (cases_eq k renamed.place)
          (λ at. subst (λ (j : ℕ). row_at_place left_rows new j e ≡ row_at_place rows mid j e) (sym at) (ap (λ (n : ℕ). slice_index_or left_rows n e) here ∙ moved_here e (omega (arith, other, within)) ∙ ap (λ (n : ℕ). slice_index_or rows n e) (sym renamed.was)))
          (λ off. ap (λ (n : ℕ). slice_index_or left_rows n e) (there k off) ∙ moved_other (slice_index mid k) e (left.gone k (omega (arith, lt, long))) (below_other k (omega (arith, lt, long)) off))

      each : (n : ℕ) → n < length left_rows → (n ≡ number) ⊎ (n ≢ number) → Contains new n
      each n lt (inl at) = (renamed.place, omega (arith, long, renamed.within), get_or_default new renamed.place n 0 (omega (arith, long, renamed.within)) ∙ here ∙ sym at)
      each n lt (inr off) =
          let (k, lt_k, at) = left.others n (index.each n (omega (arith, lt, length_moved))) off in
          let named = number_at mid k n lt_k at in
          let aside : k ≢ renamed.place = λ same. omega (arith, sym (ap (λ (j : ℕ). slice_index mid j) same) ∙ named, renamed.was, lt, length_moved) in
          (k, omega (arith, long, lt_k), get_or_default new k n 0 (omega (arith, long, lt_k)) ∙ there k aside ∙ named)

      pub without : IsIndex (order_cmp order) left_rows new
      without = record {
        rises = rises_same (order_cmp order) (order_total order) rows mid left_rows new long below same_row left.rises;
        each = λ n lt. each n lt (cases_eq n number);
      }

-- ---- What a halving search does at one look.

-- looks made, rows left, rows in all
abbrev pub Cost : ℕ → ℕ → ℕ → Type 0
Cost looks left all = (2 ^ looks * left ≤ all) × (2 ^ looks ≤ 2 * all + 1)

-- a look leaves at most half of the rows
pub cost_more : (looks left next all : ℕ) → Cost looks left all → 0 < left → 2 * next ≤ left → Cost (looks + 1) next all
cost_more looks left next all cost some halves =
    let twice : 2 ^ (looks + 1) ≡ 2 ^ looks * 2 = pow-add 2 looks 1 in
    let all_next : 2 ^ (looks + 1) * next ≡ (2 ^ looks * 2) * next = ap (λ (p : ℕ). p * next) twice in
    let fits = mul-le-mul_left (2 ^ looks) halves in
    let one = mul-le-mul_left (2 ^ looks) some in
    (omega (arith, all_next, fits, cost.0), omega (arith, twice, one, cost.0))

-- the same of a count that a look raises
pub cost_look : (start steps ticked left next all : ℕ) → ticked ≡ steps + 1 → start ≤ steps → Cost (steps - start) left all → 0 < left → 2 * next ≤ left → Cost (ticked - start) next all
cost_look start steps ticked left next all is grown cost some halves =
    let looks : ticked - start ≡ (steps - start) + 1 = omega (arith, is, grown) in
    subst (λ (n : ℕ). Cost n next all) (sym looks) (cost_more (steps - start) left next all cost some halves)

-- the row that is read at a place of an order
module _ {A : Type 0} (probe : Probe A) (rows : List RowValue) (numbers : List ℕ) (p : ℕ) (x : RowValue) (within : p < length numbers) (falls : Falls probe rows numbers) (at_any : (d : RowValue) → x ≡ row_at_place rows numbers p d) where
  -- no row up to one that stands before what is sought does otherwise
  pub before_too : is_before probe x ≡ true → (i : ℕ) (d : RowValue) → i < p + 1 → is_before probe (row_at_place rows numbers i d) ≡ true
  before_too holds i d le = grind (arith, cases_eq i p, at_any d, falls i p d)

  -- no row from one on that doesn't stand before what is sought does so
  pub after_too : is_before probe x ≡ false → (i : ℕ) (d : RowValue) → p ≤ i → i < length numbers → is_before probe (row_at_place rows numbers i d) ≡ false
  after_too fails i d le lt = on_either (cases_eq i p) (λ same. grind (arith, at_any d))
      (λ other. not_true (is_before probe (row_at_place rows numbers i d)) (λ holds. true≢false (sym (falls p i d (omega (arith, le, other)) lt holds) ∙ ap (is_before probe) (sym (at_any d)) ∙ fails)))

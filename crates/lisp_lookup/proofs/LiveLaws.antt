-- The records of a router's live rows: going through the rows, and what they make.
use Rattle.std.proofs.Common.{◌≡◌, ◌≢◌, ℕ, suc, ◌+◌, ◌<◌, ◌≤◌, ◌⊎◌, inl, inr, Bool, true, false, cond, List, [], ◌∷◌, ◌++◌, length, map, take, take_all, drop, slice_index_or, Option, Some, None, refl, sym, ap, ◌∙◌, subst, arith, nat_lt, get_or}
use Rattle.std.proofs.Math.Seq.{take-suc}
use Rattle.std.proofs.lemmas.List.Sorted.{ranks_by, sorted_far}
use Rattle.std.proofs.lemmas.List.{append-nil, take-append-drop, map-append, length-append, length-map, get_or-map, drop-drop, drop_all, get_or-drop}
use Rattle.std.proofs.lemmas.List.Kept.{AllPairs-filter}
use Rattle.std.proofs.lemmas.List.Elements.{filter-append, filter_more, filter_passes}
use Rattle.std.proofs.lemmas.List.Sums.{sum_by-append}
use Rattle.std.proofs.lemmas.List.Folds.{drop_split}
use Rattle.std.proofs.lemmas.Bool.{and_parts, cond-false, cond-true, le-leb}
use Rattle.std.proofs.lemmas.Bool.Decides.{nat_tests}
use Rattle.std.proofs.lemmas.Option.{cond_some, slice_get_read}
use Rattle.std.specs.List.{All, AllPairs, Contains, filter, position, position_or_len, slice_range}
use Rattle.std.specs.List.Sorted.{IsPermutation, IsSortedByKey}
use Rattle.std.specs.Ordering.{is_lt}
use Rattle.lisp_records.proofs.RouterLaws.{router_eq-Decides}
use Rattle.lisp_records.specs.declared.router.RouterId.{RouterId}
use Rattle.lisp_records.specs.Address.{PrefixValue, prefix_cmp}
use Rattle.lisp_records.specs.Record.{MapRecordValue}
use Rattle.lisp_records.specs.Row.{RowValue, is_alive}
use Rattle.lisp_records.specs.Written.{written}
use Rattle.lisp_records.specs.Parts.{size, fits_message}
use Rattle.lisp_lookup.specs.Table.{is_row_of, row_key, row_at, OneEach, IsNextLive}
use Rattle.lisp_lookup.specs.Records.{is_live_of, live_of, ByPrefix}
use Rattle.lisp_lookup.proofs.Orders.{block_total, same_block}
use Rattle.lisp_lookup.proofs.Apart.{on_either, found}
use Rattle.lisp_lookup.proofs.TableLaws.{has_key, filtered_holds, filter_holds, less_from, differ_moved}

-- the row at a place is the last of the first so many
taken : (rows : List RowValue) (i : ℕ) (h : RowValue) → i < length rows → h ≡ slice_index_or rows i h → take (i + 1) rows ≡ take i rows ++ h ∷ []
taken rows i h within at =
    let next : i + 1 ≡ suc i = omega arith in
    ap (λ (n : ℕ). take n rows) next ∙ take-suc rows i h within ∙ ap (λ (y : RowValue). take i rows ++ y ∷ []) (sym at)

-- the records of rows and of rows that follow
live_both : (rows more : List RowValue) (router : RouterId) (now : ℕ) → live_of (rows ++ more) router now ≡ live_of rows router now ++ live_of more router now
live_both rows more router now = ap (map (λ (h : RowValue). h.mapping)) (filter-append (is_live_of router now) rows more) ∙ map-append (λ (h : RowValue). h.mapping) (filter (is_live_of router now) rows) (filter (is_live_of router now) more)

live_one : (h : RowValue) (router : RouterId) (now : ℕ) → live_of (h ∷ []) router now ≡ cond (is_live_of router now h) (h.mapping ∷ []) []
live_one h router now = grind arith

-- how many records there are, and how many bytes they have
pub record Counts (rows : List RowValue) (router : RouterId) (now : ℕ) (count bytes : ℕ) : Type 0 where
  pub records : count ≡ length (live_of rows router now)
  pub written : bytes ≡ size (live_of rows router now)

-- one row more
module _ (rows : List RowValue) (i : ℕ) (h : RowValue) (router : RouterId) (now count bytes : ℕ) (within : i < length rows) (at : h ≡ slice_index_or rows i h) (so_far : Counts (take i rows) router now count bytes) where
  grown : live_of (take (i + 1) rows) router now ≡ live_of (take i rows) router now ++ live_of (h ∷ []) router now
  grown = ap (λ (l : List RowValue). live_of l router now) (taken rows i h within at) ∙ live_both (take i rows) (h ∷ []) router now

  counts_more : (extra : List MapRecordValue) (more bigger : ℕ) → live_of (h ∷ []) router now ≡ extra → more ≡ count + length extra → bigger ≡ bytes + size extra → Counts (take (i + 1) rows) router now more bigger
  counts_more extra more bigger is more_is bigger_is =
      let now_is : live_of (take (i + 1) rows) router now ≡ live_of (take i rows) router now ++ extra = grown ∙ ap (λ (l : List MapRecordValue). live_of (take i rows) router now ++ l) is in
      let longer = ap length now_is ∙ length-append (live_of (take i rows) router now) extra in
      let larger = ap size now_is ∙ sum_by-append (λ m. length (written m)) (live_of (take i rows) router now) extra in
      record { records = omega (arith, longer, so_far.records, more_is); written = omega (arith, larger, so_far.written, bigger_is) }

  pub counts_next : (more bigger : ℕ) → ((is_live_of router now h ≡ true) × (more ≡ count + 1) × (bigger ≡ bytes + length (written h.mapping))) ⊎ ((is_live_of router now h ≡ false) × (more ≡ count) × (bigger ≡ bytes)) → Counts (take (i + 1) rows) router now more bigger
  counts_next more bigger (inl (is, more_is, bigger_is)) = counts_more (h.mapping ∷ []) more bigger (live_one h router now ∙ cond-true (is_live_of router now h) (h.mapping ∷ []) [] is) (omega (arith, more_is)) (omega (arith, bigger_is))
  counts_next more bigger (inr (is, more_is, bigger_is)) = counts_more [] more bigger (live_one h router now ∙ cond-false (is_live_of router now h) (h.mapping ∷ []) [] is) (omega (arith, more_is)) (omega (arith, bigger_is))

-- rows of one router are of different prefixes
apart : (rows : List RowValue) (router : RouterId) → OneEach rows → All (λ h. h.router ≡ router) rows → AllPairs (λ a b. a.eid ≢ b.eid) (map (λ h. h.mapping) rows)
apart [] router one its = λ i j d before lt same. absurd (omega (arith, lt))
apart (x ∷ xs) router one its = λ i j d before lt same. (
    let rows : List RowValue = x ∷ xs in
    let within : j < length rows = omega (arith, lt, length-map rows (λ (h : RowValue). h.mapping)) in
    let earlier : i < length rows = omega (arith, before, within) in
    let own = λ (k : ℕ) (lt : k < length rows). ap (λ (m : MapRecordValue). m.eid) (get_or-map (λ h. h.mapping) rows k x d lt) in
    let eid = sym (own i earlier) ∙ same ∙ own j within in
    let router = its i x earlier ∙ sym (its j x within) in
    one i j x before within (λ k. (router k, eid k)))

its_router : (rows : List RowValue) (router : RouterId) (now : ℕ) → All (λ h. h.router ≡ router) (filter (is_live_of router now) rows)
its_router rows router now i d lt = (router_eq-Decides (slice_index_or (filter (is_live_of router now) rows) i d).router router).0 (and_parts _ _ (filter_passes (is_live_of router now) rows i d lt)).0

differ : (rows : List RowValue) (router : RouterId) (now : ℕ) → OneEach rows → AllPairs (λ a b. a.eid ≢ b.eid) (live_of rows router now)
differ rows router now one = apart (filter (is_live_of router now) rows) router (AllPairs-filter (λ a b. row_key a ≢ row_key b) (is_live_of router now) rows one) (its_router rows router now)

large : (ms : List MapRecordValue) → (255 < length ms) ⊎ (16384 < size ms) → fits_message ms ≡ false
large ms over = grind (arith, nat_tests)

fitting : (ms : List MapRecordValue) → length ms ≤ 255 → size ms ≤ 16384 → fits_message ms ≡ true
fitting ms few small = rw (le-leb (length ms) 255 few, le-leb (size ms) 16384 small) refl

-- the first so many rows are all
pub counts_all : (rows : List RowValue) (i : ℕ) (router : RouterId) (now count bytes : ℕ) → length rows ≤ i → Counts (take i rows) router now count bytes → Counts rows router now count bytes
counts_all rows i router now count bytes past counts = subst (λ (l : List RowValue). Counts l router now count bytes) (take_all i rows past) counts

-- too many of the first rows are too many of all
pub too_large : (rows : List RowValue) (k : ℕ) (router : RouterId) (now count bytes : ℕ) → Counts (take k rows) router now count bytes → (255 < count) ⊎ (16384 < bytes) → fits_message (live_of rows router now) ≡ false
too_large rows k router now count bytes counts over = large (live_of rows router now) (on_either over
    (λ many. inl (let longer = ap length split ∙ length-append (live_of (take k rows) router now) (live_of (drop k rows) router now) in omega (arith, many, counts.records, longer)))
    (λ long. inr (let larger = ap size split ∙ sum_by-append (λ m. length (written m)) (live_of (take k rows) router now) (live_of (drop k rows) router now) in omega (arith, long, counts.written, larger))))
  where
    split : live_of rows router now ≡ live_of (take k rows) router now ++ live_of (drop k rows) router now
    split = ap (λ (l : List RowValue). live_of l router now) (sym (take-append-drop k rows)) ∙ live_both (take k rows) (drop k rows) router now

-- one message can carry few and short records
pub fits : (rows : List RowValue) (router : RouterId) (now count bytes : ℕ) → Counts rows router now count bytes → count ≤ 255 → bytes ≤ 16384 → fits_message (live_of rows router now) ≡ true
fits rows router now count bytes counts few small = fitting (live_of rows router now) (omega (arith, few, counts.records)) (omega (arith, small, counts.written))

-- the records in their order by prefix
pub by_prefix : (rows : List RowValue) (router : RouterId) (now : ℕ) (records : List MapRecordValue) → OneEach rows → IsPermutation (live_of rows router now) records → IsSortedByKey (λ m. m.eid) prefix_cmp records → ByPrefix (live_of rows router now) records
by_prefix rows router now records one moved sorted = record {
  same = moved;
  rising = λ i j d before lt. (
      let later = sorted_far (λ a b. is_lt (prefix_cmp a.eid b.eid)) (ranks_by block_total (λ m. m.eid)) records sorted i j d (omega (arith, before)) lt in
      let turned = block_total.antisymm (slice_index_or records j d).eid (slice_index_or records i d).eid in
      less_from (prefix_cmp (slice_index_or records i d).eid (slice_index_or records j d).eid) (ap is_lt (sym turned) ∙ later) (λ tie. differ_moved (λ (m : MapRecordValue). m.eid) (live_of rows router now) records moved (differ rows router now one) i j d before lt (same_block (slice_index_or records i d).eid (slice_index_or records j d).eid tie)));
}

-- a router with live records has a row
pub some_row : (rows : List RowValue) (router : RouterId) (now : ℕ) → live_of rows router now ≢ [] → (eid : PrefixValue) × (h : RowValue) × (row_at rows router eid ≡ Some h)
unfolding row_at
some_row rows router now some = first (filter (is_live_of router now) rows) refl
  where
    its : (x : RowValue) → is_live_of router now x ≡ true → x.router ≡ router
    its x live = (router_eq-Decides x.router router).0 (and_parts _ _ live).0

    there : (x : RowValue) → Contains rows x → x.router ≡ router → row_at rows router x.mapping.eid ≢ None
    there x c own = found (is_row_of router x.mapping.eid) rows c.0 x c.1 ((has_key (router, x.mapping.eid) (slice_index_or rows c.0 x)).1 (ap row_key c.2 ∙ ap (λ (r : RouterId). (r, x.mapping.eid)) own))

    row_of : (x : RowValue) → row_at rows router x.mapping.eid ≢ None → (o : Option RowValue) → row_at rows router x.mapping.eid ≡ o → (eid : PrefixValue) × (h : RowValue) × (row_at rows router eid ≡ Some h)
    row_of x there None e = absurd (there e)
    row_of x there (Some h) e = (x.mapping.eid, h, e)

    first : (fl : List RowValue) → filter (is_live_of router now) rows ≡ fl → (eid : PrefixValue) × (h : RowValue) × (row_at rows router eid ≡ Some h)
    first [] e = absurd (some (ap (map (λ (h : RowValue). h.mapping)) e))
    first (x ∷ xs) e =
        let held = filtered_holds (is_live_of router now) rows x (subst (λ (fl : List RowValue). Contains fl x) (sym e) (0, omega arith, refl)) in
        row_of x (there x held.0 (its x held.1)) (row_at rows router x.mapping.eid) refl

-- copies of the records so far, and of one more where the next row is one of the router, and alive
pub copies_next : (rows : List RowValue) (i : ℕ) (h : RowValue) (router : RouterId) (now : ℕ) (old new : List MapRecordValue) → i < length rows → h ≡ slice_index_or rows i h
    → old ≡ live_of (take i rows) router now
    → ((is_live_of router now h ≡ true) × (new ≡ old ++ h.mapping ∷ [])) ⊎ ((is_live_of router now h ≡ false) × (new ≡ old ++ []))
    → new ≡ live_of (take (i + 1) rows) router now
copies_next rows i h router now old new within at so_far moved = on_either moved
    (λ (is, grew). rw (live_one h router now, is, ← so_far) grew)
    (λ (is, stayed). rw (live_one h router now, is, ← so_far) stayed) ∙ sym (ap (λ (l : List RowValue). live_of l router now) (taken rows i h within at) ∙ live_both (take i rows) (h ∷ []) router now)

-- one row more of those that pass a test
pub rows_next : (test : RowValue → Bool) (rows : List RowValue) (i : ℕ) (h : RowValue) (old new : List RowValue) → i < length rows → h ≡ slice_index_or rows i h → old ≡ filter test (take i rows) → ((test h ≡ true) × (new ≡ old ++ h ∷ [])) ⊎ ((test h ≡ false) × (new ≡ old)) → new ≡ filter test (take (i + 1) rows)
rows_next test rows i h old new within at so_far either = on_either either
    (λ (is, new_is). new_is ∙ ap (λ (l : List RowValue). l ++ h ∷ []) so_far ∙ sym (grown true is))
    (λ (is, new_is). new_is ∙ so_far ∙ sym (grown false is ∙ append-nil (filter test (take i rows))))
  where
    grown : (b : Bool) → test h ≡ b → filter test (take (i + 1) rows) ≡ filter test (take i rows) ++ cond b (h ∷ []) []
    grown b is = filter_more test rows i h within ∙ ap (λ (x : RowValue). filter test (take i rows) ++ cond (test x) (x ∷ []) []) (sym at) ∙ ap (λ (b : Bool). filter test (take i rows) ++ cond b (h ∷ []) []) is

-- where no row passes, none that is read does
pub none_passes : (test : RowValue → Bool) (rows : List RowValue) (i : ℕ) (h : RowValue) → i < length rows → h ≡ slice_index_or rows i h → test h ≡ true → length (filter test rows) ≡ 0 → ⊥
none_passes test rows i h within at is none =
    let held = filter_holds test rows h (i, within, sym at) is in
    omega (arith, none, held.1)

-- the same of the records
pub none_recorded : (rows : List RowValue) (i : ℕ) (h : RowValue) (router : RouterId) (now : ℕ) → i < length rows → h ≡ slice_index_or rows i h → is_live_of router now h ≡ true → live_of rows router now ≡ [] → ⊥
none_recorded rows i h router now within at is none = none_passes (is_live_of router now) rows i h within at is (sym (length-map (filter (is_live_of router now) rows) (λ (h : RowValue). h.mapping)) ∙ ap length none)

-- ---- The first row that is alive from a place on, and those behind it.

module _ {X : Type 0} (p : X → Bool) where
  -- none passes
  none_next : (x : X) (xs : List X) → (length xs ≤ position_or_len p xs → filter p xs ≡ []) → length (x ∷ xs) ≤ position_or_len p (x ∷ xs) → filter p (x ∷ xs) ≡ []
  none_next x xs rest long = grind arith

  none_at : (xs : List X) → length xs ≤ position_or_len p xs → filter p xs ≡ []
  none_at [] long = refl
  none_at (x ∷ xs) long = none_next x xs (none_at xs) long

  -- one does
  abbrev BeginsAt : List X → ℕ → X → Type 0
  BeginsAt xs k d = filter p xs ≡ get_or xs k d ∷ filter p (drop (suc k) xs)

  first_next : (x : X) (xs : List X) (d : X) → (position_or_len p xs < length xs → BeginsAt xs (position_or_len p xs) d) → position_or_len p (x ∷ xs) < length (x ∷ xs) → BeginsAt (x ∷ xs) (position_or_len p (x ∷ xs)) d
  first_next x xs d rest lt = grind arith

  first_at : (xs : List X) (d : X) → position_or_len p xs < length xs → BeginsAt xs (position_or_len p xs) d
  first_at [] d lt = absurd (omega (arith, lt))
  first_at (x ∷ xs) d lt = first_next x xs d (first_at xs d) lt

  pub none_at_place : (xs : List X) → position p xs ≡ None → filter p xs ≡ []
  none_at_place xs none = none_at xs (grind (arith, nat_tests))

  pub first_passes : (xs : List X) (k : ℕ) (d : X) → position p xs ≡ Some k → k < length xs → BeginsAt xs k d
  first_passes xs k d some lt =
      let is : position_or_len p xs ≡ k = (cond_some (nat_lt (position_or_len p xs) (length xs)) (position_or_len p xs) k some).1 in
      subst (λ (n : ℕ). BeginsAt xs n d) is (first_at xs d (omega (arith, lt, is)))

-- all from a place on, of which there are so many
pub rest_of : {X : Type 0} (xs : List X) (at : ℕ) → at ≤ length xs → slice_range xs at (length xs) ≡ drop at xs
rest_of xs at le = sym (drop_split xs at (length xs) le ∙ ap (λ ys. slice_range xs at (length xs) ++ ys) (drop_all (length xs) xs (omega arith)) ∙ append-nil (slice_range xs at (length xs)))

-- the first row that is alive from a place on
pub next_is : (rows rest : List RowValue) (place now k : ℕ) (h : RowValue) → rest ≡ drop place rows → length rest + place ≡ length rows → k < length rest → position (λ r. is_alive r now) rest ≡ Some k → h ≡ get_or rest k h → IsNextLive rows place now (place + k) h
next_is rows rest place now k h is long below at value = record {
  on = omega arith;
  there = slice_get_read rows (length rows) (place + k) h refl (omega (arith, below, long)) (value ∙ ap (λ (xs : List RowValue). get_or xs k h) is ∙ get_or-drop place rows k h);
  first = ap (λ (xs : List RowValue). filter (λ r. is_alive r now) xs) (sym is) ∙ first_passes (λ r. is_alive r now) rest k h at below ∙ ap (λ (x : RowValue). x ∷ filter (λ r. is_alive r now) (drop (suc k) rest)) (sym value) ∙ ap (λ (ys : List RowValue). h ∷ filter (λ r. is_alive r now) ys) (ap (λ (xs : List RowValue). drop (suc k) xs) is ∙ drop-drop (suc k) place rows ∙ ap (λ (n : ℕ). drop n rows) (omega arith));
}

-- Rows, and the row of a destination among them.
use Rattle.std.proofs.Common.{◌≡◌, ◌⊎◌, inl, inr, ℕ, zero, suc, ◌+◌, ◌<◌, ◌≤◌, Bool, true, false, not, cond, List, [], ◌∷◌, ◌++◌, length, map, set, get_or, Option, Some, None, is_some, unwrap_or, refl, sym, ap, ◌∙◌, arith, true≢false, nat_lt}
use Rattle.std.specs.List.{filter, find, position, position_or_len}
use Rattle.std.specs.Prelude.{slice_get}
use Rattle.std.proofs.lemmas.Bool.{cond_both, ltb-true, ltb-false, false_from_ne_true}
use Rattle.std.proofs.lemmas.List.Folds.{find_at}
use Rattle.std.proofs.lemmas.List.Quantifiers.{position-Some}
use Rattle.std.proofs.lemmas.Option.{slice_get_read, slice_get_past}
use Rattle.lisp_records.specs.Address.{PrefixValue, prefix_eq}
use Rattle.lisp_records.proofs.DatabaseLaws.{block_eq-Decides}
use Rattle.lisp_budget.specs.declared.rows.Row.{Row}
use Rattle.lisp_budget.specs.Budget.{is_of, row_of, spent_on, passed, passed_rows, Differ, counted_in}

-- at most one row passes a test
abbrev pub Once : (Row → Bool) → List Row → Type 0
Once t [] = Unit {0}
Once t (r ∷ rows) = (t r ≡ true → find t rows ≡ None) × Once t rows

pub once : (rows : List Row) → Differ rows → (to : PrefixValue) → Once (is_of to) rows
once [] differ to = tt
once (r ∷ rows) (none, differ) to =
    ((λ is. let same : r.to ≡ to = (block_eq-Decides r.to to).0 is in ap (λ q. row_of rows q) (sym same) ∙ none), once rows differ to)

-- ---- the next slot

pub passed_fewer : (rows : List Row) → length (passed_rows rows) ≤ length rows
passed_fewer [] = omega arith
passed_fewer (r ∷ rows) =
    let more = passed_fewer rows in
    cond_both (nat_lt 0 r.present) (r ∷ filter (λ x. nat_lt 0 x.present) rows) (filter (λ x. nat_lt 0 x.present) rows)
    (λ kept. length (map passed kept) ≤ length (r ∷ rows))
    (λ live. omega arith)
    (λ dead. omega arith)

find_none : (b : Bool) (r : Row) (o : Option Row) → cond b (Some r) o ≡ None → (b ≡ false) × (o ≡ None)
find_none true r o none = absurd (let clash : Some r ≡ None = none in cc)
find_none false r o none = (refl, none)

module _ (t : Row → Bool) (same : (r : Row) → t (passed r) ≡ t r) (d e : Row) (d_none : d.present ≡ 0) (e_none : e.before ≡ 0) (e_empty : e.present ≡ 0) where
  stays : (b : Bool) (r : Row) (o p : Option Row) → (unwrap_or p e).before ≡ (unwrap_or o d).present → (unwrap_or (cond b (Some (passed r)) p) e).before ≡ (unwrap_or (cond b (Some r) o) d).present
  stays true r o p more = refl
  stays false r o p more = more

  goes : (b : Bool) (r : Row) (o p : Option Row) → (b ≡ true → o ≡ None) → r.present ≡ 0 → (unwrap_or p e).before ≡ (unwrap_or o d).present → (unwrap_or p e).before ≡ (unwrap_or (cond b (Some r) o) d).present
  goes true r o p none dead more = more ∙ (ap (λ x. (unwrap_or x d).present) (none refl) ∙ (d_none ∙ sym dead))
  goes false r o p none dead more = more

  pub before_passed : (rows : List Row) → Once t rows → (unwrap_or (find t (passed_rows rows)) e).before ≡ (unwrap_or (find t rows) d).present
  before_passed [] one = e_none ∙ sym d_none
  before_passed (r ∷ rows) (none, one) =
      let more = before_passed rows one in
      cond_both (nat_lt 0 r.present) (r ∷ filter (λ x. nat_lt 0 x.present) rows) (filter (λ x. nat_lt 0 x.present) rows)
      (λ kept. (unwrap_or (find t (map passed kept)) e).before ≡ (unwrap_or (find t (r ∷ rows)) d).present)
      (λ live. rw (same r) (stays (t r) r (find t rows) (find t (passed_rows rows)) more))
      (λ dead. let zero_present : r.present ≡ 0 = (let le = ltb-false 0 r.present dead in omega arith) in goes (t r) r (find t rows) (find t (passed_rows rows)) none zero_present more)

  none_present : (b : Bool) (r : Row) (p : Option Row) → (unwrap_or p e).present ≡ 0 → (unwrap_or (cond b (Some (passed r)) p) e).present ≡ 0
  none_present true r p more = refl
  none_present false r p more = more

  pub present_passed : (rows : List Row) → (unwrap_or (find t (passed_rows rows)) e).present ≡ 0
  present_passed [] = e_empty
  present_passed (r ∷ rows) =
      let more = present_passed rows in
      cond_both (nat_lt 0 r.present) (r ∷ filter (λ x. nat_lt 0 x.present) rows) (filter (λ x. nat_lt 0 x.present) rows)
      (λ kept. (unwrap_or (find t (map passed kept)) e).present ≡ 0)
      (λ live. none_present (t (passed r)) r (find t (passed_rows rows)) more)
      (λ dead. more)

  -- a row that stays has bytes
  stays_known : (b : Bool) (r : Row) (o p : Option Row) → 0 < r.present → (is_some p ≡ true → 0 < (unwrap_or o d).present) → is_some (cond b (Some (passed r)) p) ≡ true → 0 < (unwrap_or (cond b (Some r) o) d).present
  stays_known true r o p live more is = live
  stays_known false r o p live more is = more is

  goes_known : (b : Bool) (r : Row) (o p : Option Row) → (b ≡ true → o ≡ None) → (is_some p ≡ true → 0 < (unwrap_or o d).present) → is_some p ≡ true → 0 < (unwrap_or (cond b (Some r) o) d).present
  goes_known true r o p none more is = (let some : 0 < (unwrap_or o d).present = more is in let e1 : (unwrap_or o d).present ≡ 0 = ap (λ x. (unwrap_or x d).present) (none refl) ∙ d_none in absurd (omega arith))
  goes_known false r o p none more is = more is

  pub known_passed : (rows : List Row) → Once t rows → is_some (find t (passed_rows rows)) ≡ true → 0 < (unwrap_or (find t rows) d).present
  known_passed [] one = λ is. absurd (true≢false (sym is))
  known_passed (r ∷ rows) (none, one) =
      let more : is_some (find t (passed_rows rows)) ≡ true → 0 < (unwrap_or (find t rows) d).present = known_passed rows one in
      cond_both (nat_lt 0 r.present) (r ∷ filter (λ x. nat_lt 0 x.present) rows) (filter (λ x. nat_lt 0 x.present) rows)
      (λ kept. is_some (find t (map passed kept)) ≡ true → 0 < (unwrap_or (find t (r ∷ rows)) d).present)
      (λ live is. stays_known (t r) r (find t rows) (find t (passed_rows rows)) (ltb-true 0 r.present live) more (ap (λ b. is_some (cond b (Some (passed r)) (find t (passed_rows rows)))) (sym (same r)) ∙ is))
      (λ dead. goes_known (t r) r (find t rows) (find t (passed_rows rows)) none more)

  -- a row that goes makes room
  some_present : (o : Option Row) → 0 < (unwrap_or o d).present → is_some o ≡ true
  some_present None some = absurd (omega (arith, d_none))
  some_present (Some r) some = refl

  pub was_known : (rows : List Row) → Once t rows → is_some (find t (passed_rows rows)) ≡ true → is_some (find t rows) ≡ true
  was_known rows one is = some_present (find t rows) (known_passed rows one is)

  stays_or_room : (b : Bool) (r : Row) (o p : Option Row) (m n : ℕ) → (is_some o ≡ true → (is_some p ≡ true) ⊎ (m < n)) → is_some (cond b (Some r) o) ≡ true → (is_some (cond b (Some (passed r)) p) ≡ true) ⊎ (suc m < suc n)
  stays_or_room true r o p m n more is = inl refl
  stays_or_room false r o p m n more is = elim (more is) [ inl e ↦ inl e | inr lt ↦ inr (omega arith) ]

  pub stays_or_makes_room : (rows : List Row) → is_some (find t rows) ≡ true → (is_some (find t (passed_rows rows)) ≡ true) ⊎ (length (passed_rows rows) < length rows)
  stays_or_makes_room [] = λ is. absurd (true≢false (sym is))
  stays_or_makes_room (r ∷ rows) =
      let more : is_some (find t rows) ≡ true → (is_some (find t (passed_rows rows)) ≡ true) ⊎ (length (passed_rows rows) < length rows) = stays_or_makes_room rows in
      cond_both (nat_lt 0 r.present) (r ∷ filter (λ x. nat_lt 0 x.present) rows) (filter (λ x. nat_lt 0 x.present) rows)
      (λ kept. is_some (find t (r ∷ rows)) ≡ true → (is_some (find t (map passed kept)) ≡ true) ⊎ (length (map passed kept) < length (r ∷ rows)))
      (λ live is. rw (same r) (stays_or_room (t r) r (find t rows) (find t (passed_rows rows)) (length (passed_rows rows)) (length rows) more is))
      (λ dead is. inr (let few = passed_fewer rows in omega arith))

  pub find_passed : (rows : List Row) → find t rows ≡ None → find t (passed_rows rows) ≡ None
  find_passed [] none = refl
  find_passed (r ∷ rows) none =
      let no = find_none (t r) r (find t rows) none in
      let more = find_passed rows no.1 in
      cond_both (nat_lt 0 r.present) (r ∷ filter (λ x. nat_lt 0 x.present) rows) (filter (λ x. nat_lt 0 x.present) rows)
      (λ kept. find t (map passed kept) ≡ None)
      (λ live. ap (λ b. cond b (Some (passed r)) (find t (passed_rows rows))) (same r ∙ no.0) ∙ more)
      (λ dead. more)

-- the rows' destinations still differ
pub differ_passed : (rows : List Row) → Differ rows → Differ (passed_rows rows)
differ_passed [] differ = tt
differ_passed (r ∷ rows) (none, differ) =
    let more = differ_passed rows differ in
    let nowhere = find_passed (is_of r.to) (λ _. refl) (record { to = r.to; before = 0; present = 0 }) (record { to = r.to; before = 0; present = 0 }) refl refl refl rows none in
    cond_both (nat_lt 0 r.present) (r ∷ filter (λ x. nat_lt 0 x.present) rows) (filter (λ x. nat_lt 0 x.present) rows)
    (λ kept. Differ (map passed kept))
    (λ live. (nowhere, more))
    (λ dead. more)

-- ---- a row by its place

place_is : (b : Bool) (n i : ℕ) → cond b (Some n) None ≡ Some i → n ≡ i
place_is true n i at = cc
place_is false n i at = absurd (let clash : None ≡ Some i = at in cc)

pub position_at : (p : Row → Bool) (xs : List Row) (i : ℕ) → position p xs ≡ Some i → position_or_len p xs ≡ i
position_at p xs i at = place_is (nat_lt (position_or_len p xs) (length xs)) (position_or_len p xs) i at

pub found : (p : Row → Bool) (xs : List Row) (i : ℕ) (x : Row) → position p xs ≡ Some i → x ≡ get_or xs i x → Some x ≡ find p xs
found p xs i x at read =
    let within = (position-Some p xs i x at).0 in
    sym (find_at p xs ∙ (ap (slice_get xs) (position_at p xs i at) ∙ slice_get_read xs (length xs) i x refl within read))

past : (n len : ℕ) (b : Bool) → nat_lt n len ≡ b → cond b (Some n) None ≡ None → len ≤ n
past n len true e at = absurd (let clash : Some n ≡ None = at in cc)
past n len false e at = ltb-false n len e

pub found_nowhere : (p : Row → Bool) (xs : List Row) → position p xs ≡ None → find p xs ≡ None
found_nowhere p xs at = find_at p xs ∙ slice_get_past xs (position_or_len p xs) (past (position_or_len p xs) (length xs) (nat_lt (position_or_len p xs) (length xs)) refl at)

-- ---- bytes that count

module _ (to : PrefixValue) (bytes : ℕ) where
  pub counted_behind : (rows : List Row) → row_of rows to ≡ None → counted_in rows to bytes ≡ rows ++ record { to = to; before = 0; present = bytes } ∷ []
  counted_behind [] none = refl
  counted_behind (r ∷ rows) none =
      let no = find_none (is_of to r) r (row_of rows to) none in
      ap (λ b. cond b (record r { present = r.present + bytes } ∷ rows) (r ∷ counted_in rows to bytes)) no.0 ∙ ap (λ xs. r ∷ xs) (counted_behind rows no.1)

  first_is : (b : Bool) (n : ℕ) → cond (not b) (1 + n) 0 ≡ 0 → b ≡ true
  first_is true n at = refl
  first_is false n at = absurd (let e : 1 + n ≡ 0 = at in omega arith)

  later_is : (b : Bool) (n i : ℕ) → cond (not b) (1 + n) 0 ≡ suc i → (b ≡ false) × (n ≡ i)
  later_is true n i at = absurd (let e : 0 ≡ suc i = at in omega arith)
  later_is false n i at = (refl, (let e : 1 + n ≡ suc i = at in omega arith))

  pub counted_at : (rows : List Row) (i : ℕ) (d : Row) → position_or_len (is_of to) rows ≡ i → i < length rows → set rows i (record (get_or rows i d) { present = (get_or rows i d).present + bytes }) ≡ counted_in rows to bytes
  counted_at [] i d at within = absurd (omega arith)
  counted_at (r ∷ rows) zero d at within =
      ap (λ b. cond b (record r { present = r.present + bytes } ∷ rows) (r ∷ counted_in rows to bytes)) (sym (first_is (is_of to r) (position_or_len (is_of to) rows) at))
  counted_at (r ∷ rows) (suc i) d at within =
      let no = later_is (is_of to r) (position_or_len (is_of to) rows) i at in
      ap (λ xs. r ∷ xs) (counted_at rows i d no.1 (omega arith)) ∙ ap (λ b. cond b (record r { present = r.present + bytes } ∷ rows) (r ∷ counted_in rows to bytes)) (sym no.0)

  pub counted_there : (rows : List Row) (i : ℕ) (x : Row) → position (is_of to) rows ≡ Some i → x ≡ get_or rows i x → set rows i (record x { present = x.present + bytes }) ≡ counted_in rows to bytes
  counted_there rows i x at read =
      ap (λ (y : Row). set rows i (record y { present = y.present + bytes })) read ∙ counted_at rows i x (position_at (is_of to) rows i at) (position-Some (is_of to) rows i x at).0

  pub spent_there : (rows : List Row) (i : ℕ) (x : Row) → position (is_of to) rows ≡ Some i → x ≡ get_or rows i x → x ≡ spent_on rows to
  spent_there rows i x at read = ap (λ o. unwrap_or o (record { to = to; before = 0; present = 0 })) (found (is_of to) rows i x at read)

  long_here : (b : Bool) (r : Row) (o : Option Row) (n : ℕ) → b ≡ true → n ≡ n + cond (is_some (cond b (Some r) o)) 0 1
  long_here true r o n is = omega arith
  long_here false r o n is = absurd (true≢false (sym is))

  long_there : (b : Bool) (r : Row) (o : Option Row) (m n : ℕ) → b ≡ false → m ≡ n + cond (is_some o) 0 1 → suc m ≡ suc n + cond (is_some (cond b (Some r) o)) 0 1
  long_there true r o m n is more = absurd (true≢false is)
  long_there false r o m n is more = omega arith

  pub length_counted : (rows : List Row) → length (counted_in rows to bytes) ≡ length rows + cond (is_some (row_of rows to)) 0 1
  length_counted [] = refl
  length_counted (r ∷ rows) =
      let more = length_counted rows in
      cond_both (is_of to r) (record r { present = r.present + bytes } ∷ rows) (r ∷ counted_in rows to bytes)
      (λ xs. length xs ≡ length (r ∷ rows) + cond (is_some (row_of (r ∷ rows) to)) 0 1)
      (λ is. long_here (is_of to r) r (row_of rows to) (length (r ∷ rows)) is)
      (λ other. long_there (is_of to r) r (row_of rows to) (length (counted_in rows to bytes)) (length rows) other more)

  -- to a destination
  module _ (q : PrefixValue) where
    here_present : (b c : Bool) (r : Row) (o : Option Row) (d : Row) → c ≡ b → (unwrap_or (cond b (Some (record r { present = r.present + bytes })) o) d).present ≡ (unwrap_or (cond b (Some r) o) d).present + cond c bytes 0
    here_present true true r o d e = refl
    here_present false false r o d e = omega arith
    here_present true false r o d e = absurd (true≢false (sym e))
    here_present false true r o d e = absurd (true≢false e)

    there_present : (b c : Bool) (r : Row) (o p : Option Row) (d : Row) → (b ≡ true → c ≡ false) → (unwrap_or p d).present ≡ (unwrap_or o d).present + cond c bytes 0 → (unwrap_or (cond b (Some r) p) d).present ≡ (unwrap_or (cond b (Some r) o) d).present + cond c bytes 0
    there_present true true r o p d other more = absurd (true≢false (other refl))
    there_present true false r o p d other more = omega arith
    there_present false c r o p d other more = more

    -- a row of another destination
    apart : (r : Row) → is_of to r ≡ false → is_of q r ≡ true → prefix_eq to q ≡ false
    apart r other is = false_from_ne_true (prefix_eq to q) (λ same.
        let a : r.to ≡ q = (block_eq-Decides r.to q).0 is in
        let b : to ≡ q = (block_eq-Decides to q).0 same in
        true≢false (sym ((block_eq-Decides r.to to).1 (a ∙ sym b)) ∙ other))

    alike : (r : Row) → is_of to r ≡ true → prefix_eq to q ≡ is_of q r
    alike r is = ap (λ x. prefix_eq x q) (sym ((block_eq-Decides r.to to).0 is))

    new_present : (b : Bool) (r d : Row) → r.present ≡ bytes → d.present ≡ 0 → (unwrap_or (cond b (Some r) None) d).present ≡ d.present + cond b bytes 0
    new_present true r d has none = omega arith
    new_present false r d has none = omega arith

    pub present_counted : (rows : List Row) → (spent_on (counted_in rows to bytes) q).present ≡ (spent_on rows q).present + cond (prefix_eq to q) bytes 0
    present_counted [] = new_present (prefix_eq to q) (record { to = to; before = 0; present = bytes }) (record { to = q; before = 0; present = 0 }) refl refl
    present_counted (r ∷ rows) =
        let more = present_counted rows in
        cond_both (is_of to r) (record r { present = r.present + bytes } ∷ rows) (r ∷ counted_in rows to bytes)
        (λ xs. (spent_on xs q).present ≡ (spent_on (r ∷ rows) q).present + cond (prefix_eq to q) bytes 0)
        (λ is. here_present (is_of q r) (prefix_eq to q) r (row_of rows q) (record { to = q; before = 0; present = 0 }) (alike r is))
        (λ other. there_present (is_of q r) (prefix_eq to q) r (row_of rows q) (row_of (counted_in rows to bytes) q) (record { to = q; before = 0; present = 0 }) (apart r other) more)

    here_before : (b : Bool) (r : Row) (o : Option Row) (d : Row) → (unwrap_or (cond b (Some (record r { present = r.present + bytes })) o) d).before ≡ (unwrap_or (cond b (Some r) o) d).before
    here_before true r o d = refl
    here_before false r o d = refl

    there_before : (b : Bool) (r : Row) (o p : Option Row) (d : Row) → (unwrap_or p d).before ≡ (unwrap_or o d).before → (unwrap_or (cond b (Some r) p) d).before ≡ (unwrap_or (cond b (Some r) o) d).before
    there_before true r o p d more = refl
    there_before false r o p d more = more

    new_before : (b : Bool) (r d : Row) → r.before ≡ d.before → (unwrap_or (cond b (Some r) None) d).before ≡ d.before
    new_before true r d none = none
    new_before false r d none = refl

    pub before_counted : (rows : List Row) → (spent_on (counted_in rows to bytes) q).before ≡ (spent_on rows q).before
    before_counted [] = new_before (prefix_eq to q) (record { to = to; before = 0; present = bytes }) (record { to = q; before = 0; present = 0 }) refl
    before_counted (r ∷ rows) =
        let more = before_counted rows in
        cond_both (is_of to r) (record r { present = r.present + bytes } ∷ rows) (r ∷ counted_in rows to bytes)
        (λ xs. (spent_on xs q).before ≡ (spent_on (r ∷ rows) q).before)
        (λ is. here_before (is_of q r) r (row_of rows q) (record { to = q; before = 0; present = 0 }))
        (λ other. there_before (is_of q r) r (row_of rows q) (row_of (counted_in rows to bytes) q) (record { to = q; before = 0; present = 0 }) more)

    here_known : (b : Bool) (r : Row) (o : Option Row) (T : Type 0) → is_some (cond b (Some (record r { present = r.present + bytes })) o) ≡ true → (is_some (cond b (Some r) o) ≡ true) ⊎ T
    here_known true r o T is = inl refl
    here_known false r o T is = inl is

    there_known : (b : Bool) (r : Row) (o p : Option Row) (T : Type 0) → (is_some p ≡ true → (is_some o ≡ true) ⊎ T) → is_some (cond b (Some r) p) ≡ true → (is_some (cond b (Some r) o) ≡ true) ⊎ T
    there_known true r o p T more is = inl refl
    there_known false r o p T more is = more is

    new_known : (b : Bool) (r : Row) → is_some (cond b (Some r) None) ≡ true → b ≡ true
    new_known true r is = refl
    new_known false r is = absurd (true≢false (sym is))

    pub known_counted : (rows : List Row) → is_some (row_of (counted_in rows to bytes) q) ≡ true → (is_some (row_of rows q) ≡ true) ⊎ (prefix_eq to q ≡ true)
    known_counted [] = λ is. inr (new_known (prefix_eq to q) (record { to = to; before = 0; present = bytes }) is)
    known_counted (r ∷ rows) =
        let more : is_some (row_of (counted_in rows to bytes) q) ≡ true → (is_some (row_of rows q) ≡ true) ⊎ (prefix_eq to q ≡ true) = known_counted rows in
        cond_both (is_of to r) (record r { present = r.present + bytes } ∷ rows) (r ∷ counted_in rows to bytes)
        (λ xs. is_some (row_of xs q) ≡ true → (is_some (row_of (r ∷ rows) q) ≡ true) ⊎ (prefix_eq to q ≡ true))
        (λ _ is. here_known (is_of q r) r (row_of rows q) (prefix_eq to q ≡ true) is)
        (λ _ is. there_known (is_of q r) r (row_of rows q) (row_of (counted_in rows to bytes) q) (prefix_eq to q ≡ true) more is)

    nowhere_else : (o : Option Row) → (is_some o ≡ true → ⊥) → o ≡ None
    nowhere_else None never = refl
    nowhere_else (Some r) never = absurd (never refl)

    pub unknown_counted : (rows : List Row) → prefix_eq to q ≡ false → row_of rows q ≡ None → row_of (counted_in rows to bytes) q ≡ None
    unknown_counted rows other none = nowhere_else (row_of (counted_in rows to bytes) q) (λ is.
        elim (known_counted rows is) [
          | inl was ↦ true≢false (sym was ∙ ap is_some none)
          | inr same ↦ true≢false (sym same ∙ other)
        ])

  unlike : (r : Row) → is_of to r ≡ false → prefix_eq to r.to ≡ false
  unlike r other = false_from_ne_true (prefix_eq to r.to) (λ same.
      let e : to ≡ r.to = (block_eq-Decides to r.to).0 same in true≢false (sym ((block_eq-Decides r.to to).1 (sym e)) ∙ other))

  pub differ_counted : (rows : List Row) → Differ rows → Differ (counted_in rows to bytes)
  differ_counted [] differ = (refl, tt)
  differ_counted (r ∷ rows) (none, differ) =
      let more = differ_counted rows differ in
      cond_both (is_of to r) (record r { present = r.present + bytes } ∷ rows) (r ∷ counted_in rows to bytes)
      Differ
      (λ _. (none, differ))
      (λ other. (unknown_counted r.to rows (unlike r other) none, more))

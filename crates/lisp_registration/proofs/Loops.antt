-- Items and records made one after the other, as a loop does.
use Rattle.std.proofs.Common.{◌≡◌, ℕ, zero, suc, ◌+◌, Bool, true, false, eqb, ◌<◌, ◌≤◌, List, [], ◌∷◌, ◌++◌, length, get_or, take, drop, Some, None, Result, Ok, Err, refl, sym, ap, subst, ◌∙◌, append_assoc, append-nil, arith, Option}
use Rattle.std.specs.Prelude.{◌≢◌}
use Rattle.std.proofs.lemmas.Bool.{le-ltb, lt-ltb}
use Rattle.std.proofs.lemmas.List.{drop_all, drop_more, length-append}
use Rattle.lisp_records.specs.Record.{MapRecordValue}
use Rattle.lisp_records.specs.Result.{◌>>=◌}
use Rattle.lisp_records.proofs.Faults.{Passes}
use Rattle.lisp_registration.specs.declared.fault.WriteFault.{WriteFault}
use Rattle.lisp_registration.specs.declared.fault.WriteFault.TheVariants.{Counts, Field, OutOfMemory}
use Rattle.lisp_registration.specs.declared.record.PlainLocator.{PlainLocator}
use Rattle.lisp_registration.specs.declared.record.PlainRecord.{PlainRecord}
use Rattle.lisp_registration.specs.Meaning.{Makes, record_in, records_in, each_in}

-- what was made before, and what is still made
abbrev pub with_front : {X : Type 0} → List X → Result (List X) WriteFault → Result (List X) WriteFault
with_front front made = made >>= λ xs. Ok (front ++ xs)

pub regrouped : {X : Type 0} (front : List X) (x : X) (made : Result (List X) WriteFault) → with_front front (made >>= λ xs. Ok (x ∷ xs)) ≡ with_front (front ++ x ∷ []) made
regrouped front x (Ok xs) = ap (λ (ys : List _). Ok ys) (simp append_assoc)
regrouped front x (Err e) = refl

-- what is passed on of a fault is what was found
pub makes_fault : {X Y : Type 0} (view : X → Y) (r : Result X WriteFault) (e : WriteFault) (found : Result Y WriteFault) → Passes r e → (e ≢ OutOfMemory → found ≡ Err e) → Makes view r found
makes_fault view (Ok x) e found passes fails = absurd passes
makes_fault view (Err d) e found passes fails = subst (λ (f : WriteFault). f ≢ OutOfMemory → found ≡ Err f) (sym passes) fails

-- ---- items made one after the other, as a loop does

module _ {X Y : Type 0} (says : X → Option Y) (front : List Y) (plain : List X) (i : ℕ) (total : Result (List Y) WriteFault) (so_far : with_front front (each_in says (drop i plain)) ≡ total) where
  -- one more is made
  pub item_made : (d : X) (y : Y) → i < length plain → says (get_or plain i d) ≡ Some y → with_front (front ++ y ∷ []) (each_in says (drop (i + 1) plain)) ≡ total
  unfolding each_in
  item_made d y lt h =
      let one : with_front front (each_in says (drop i plain)) ≡ with_front (front ++ y ∷ []) (each_in says (drop (i + 1) plain)) = rw (drop_more plain i d lt, h) (regrouped front y (each_in says (drop (i + 1) plain))) in
      sym one ∙ so_far

  -- the next one is none
  pub no_item : (d : X) → i < length plain → says (get_or plain i d) ≡ None → total ≡ Err Field
  unfolding each_in
  no_item d lt h =
      let one : with_front front (each_in says (drop i plain)) ≡ Err Field = rw (drop_more plain i d lt, h) refl in
      sym so_far ∙ one

  -- all are made
  pub items_made : length plain ≤ i → total ≡ Ok front
  unfolding each_in
  items_made le =
      let one : with_front front (each_in says (drop i plain)) ≡ Ok front = rw (drop_all i plain le) (ap (λ (ys : List Y). Ok ys) (append-nil front)) in
      sym so_far ∙ one

-- ---- records

module _ (front : List MapRecordValue) (plain : List PlainRecord) (i : ℕ) (d : PlainRecord) (ls : List PlainLocator) (total : Result (List MapRecordValue) WriteFault) (lt : i < length plain) (so_far : with_front front (records_in (drop i plain) ls) ≡ total) where
  -- the next record, and those after it
  abbrev next : PlainRecord
  next = get_or plain i d

  -- its locators are too few
  pub too_few : length ls < next.locator_count → total ≡ Err Counts
  unfolding records_in
  too_few few =
      let one : with_front front (records_in (drop i plain) ls) ≡ Err Counts = rw (drop_more plain i d lt, lt-ltb (length ls) next.locator_count few) refl in
      sym so_far ∙ one

  module _ (enough : next.locator_count ≤ length ls) where
    -- it is none
    pub no_record : (f : WriteFault) → record_in next (take next.locator_count ls) ≡ Err f → total ≡ Err f
    unfolding records_in
    no_record f h =
        let one : with_front front (records_in (drop i plain) ls) ≡ Err f = rw (drop_more plain i d lt, le-ltb (length ls) next.locator_count enough, h) refl in
        sym so_far ∙ one

    -- it is made
    pub record_made : (m : MapRecordValue) → record_in next (take next.locator_count ls) ≡ Ok m → with_front (front ++ m ∷ []) (records_in (drop (i + 1) plain) (drop next.locator_count ls)) ≡ total
    unfolding records_in
    record_made m h =
        let one : with_front front (records_in (drop i plain) ls) ≡ with_front (front ++ m ∷ []) (records_in (drop (i + 1) plain) (drop next.locator_count ls)) =
        rw (drop_more plain i d lt, le-ltb (length ls) next.locator_count enough, h) (regrouped front m (records_in (drop (i + 1) plain) (drop next.locator_count ls))) in
        sym one ∙ so_far

-- all records are made, and no locators are left
pub records_made : (front : List MapRecordValue) (plain : List PlainRecord) (i : ℕ) (ls : List PlainLocator) (total : Result (List MapRecordValue) WriteFault) → length plain ≤ i → length ls ≡ 0
    → with_front front (records_in (drop i plain) ls) ≡ total → total ≡ Ok front
unfolding records_in
records_made front plain i [] total le none so_far =
    let one : with_front front (records_in (drop i plain) []) ≡ Ok front = rw (drop_all i plain le) (ap (λ (ms : List MapRecordValue). Ok ms) (append-nil front)) in
    sym so_far ∙ one
records_made front plain i (l ∷ ls) total le none so_far = absurd (omega (arith, none))

-- all records are made, and locators are left
pub locators_left : (front : List MapRecordValue) (plain : List PlainRecord) (i : ℕ) (ls : List PlainLocator) (total : Result (List MapRecordValue) WriteFault) → length plain ≤ i → 0 < length ls
    → with_front front (records_in (drop i plain) ls) ≡ total → total ≡ Err Counts
unfolding records_in
locators_left front plain i (l ∷ ls) total le some so_far =
    let one : with_front front (records_in (drop i plain) (l ∷ ls)) ≡ Err Counts = rw (drop_all i plain le) refl in
    sym so_far ∙ one
locators_left front plain i [] total le some so_far = absurd (omega (arith, some))

-- a list that one more stands behind
pub one_longer : {X : Type 0} (xs ys : List X) (x : X) (n : ℕ) → ys ≡ xs ++ x ∷ [] → length xs ≡ n → length ys ≡ n + 1
one_longer xs ys x n is size = ap length is ∙ length-append xs (x ∷ []) ∙ ap (λ (k : ℕ). k + 1) size

-- what the test says whether locators are left
pub some_left : (b : Bool) (n : ℕ) → b ≡ eqb n 0 → b ≡ false → 0 < n
some_left b (suc n) is test = omega arith
some_left b zero is test = let clash : false ≡ true = sym test ∙ is in absurd cc

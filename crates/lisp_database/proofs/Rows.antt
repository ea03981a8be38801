-- What is left of the rows that pass a test where rows are taken out and one is put in.
use Rattle.std.proofs.Common.{◌≡◌, inl, inr, ℤ, Bool, true, false, cond, List, [], ◌∷◌, filter, Ordering, Less, Equal, Greater, refl, sym, ap, ◌∙◌, true≢false}
use Rattle.std.specs.Ordering.{is_eq}
use Rattle.std.specs.Prelude.{IsTrue}
use Rattle.std.proofs.lemmas.Bool.{cases_Bool, or_parts, not-true}
use Rattle.sqlite.specs.Order.{Row, value_cmp}
use Rattle.sqlite_trees.specs.Tree.{rowid, has_rowid, IsTable, put_row, without_rowid}
use Rattle.sqlite_trees.specs.View.{is_int, IsShaped}
use Rattle.sqlite_trees.specs.declared.store.Shape.TheVariants.{Table}
use Rattle.sqlite_trees.proofs.TreeLemmas.{IsTable-put_row}
use Rattle.sqlite_catalog.proofs.LayoutLemmas.{ascending_filter}
use Rattle.sqlite_rules.specs.Lists.{Has}
use Rattle.sqlite_rules.specs.Edit.{without_all, is_taken}
use Rattle.sqlite_rules.proofs.ListLemmas.{all_has, all_from, has_filtered}
use Rattle.sqlite_rules.proofs.TableLemmas.{put_has, without_all_has}

pub equal_is : (o : Ordering) → is_eq o ≡ true → o ≡ Equal
equal_is Less h = absurd (true≢false (sym h))
equal_is Equal h = refl
equal_is Greater h = absurd (true≢false (sym h))

module _ (p : Row → Bool) where
  spared : (id : ℤ) (rows : List Row) → ((r : Row) → Has rows r → has_rowid id r ≡ true → p r ≡ false) → filter p (without_rowid id rows) ≡ filter p rows
  spared id [] apart = refl
  spared id (r ∷ rows) apart =
      let rest = spared id rows (λ x h. apart x (inr h)) in
      elim (cases_Bool (has_rowid id r)) [
        | inl is ↦ rw (is, apart r (inl refl) is) rest
        | inr other ↦ rw (other) (ap (λ l. cond (p r) (r ∷ l) l) rest)
      ]

  -- those that pass stay where none of them has a rowid that is taken out
  pub spared_by_all : (ids : List ℤ) (rows : List Row) → ((r : Row) → Has rows r → (id : ℤ) → Has ids id → has_rowid id r ≡ true → p r ≡ false) → filter p (without_all rows ids) ≡ filter p rows
  spared_by_all [] rows apart = refl
  spared_by_all (id ∷ ids) rows apart =
      spared_by_all ids (without_rowid id rows) (λ r h i k. apart r (has_filtered _ rows r h).0 i (inr k)) ∙ spared id rows (λ r h. apart r h id (inl refl))

  pub none_passes : (rows : List Row) → ((r : Row) → Has rows r → p r ≡ false) → filter p rows ≡ []
  none_passes [] fails = refl
  none_passes (r ∷ rows) fails = rw (fails r (inl refl)) (none_passes rows (λ x h. fails x (inr h)))

  first_fails : (b : Bool) (r : Row) (rest : List Row) → cond b (r ∷ rest) rest ≡ [] → (b ≡ false) × (rest ≡ [])
  first_fails true r rest h = absurd (let e = h in cc)
  first_fails false r rest h = (refl, h)

  -- a row that does not pass changes nothing where its rowid is free
  pub put_other : (new : Row) (rows : List Row) → p new ≡ false → is_taken rows new ≡ false → filter p (put_row new rows) ≡ filter p rows
  put_other new [] fails free = rw fails refl
  put_other new (r ∷ rows) fails free = go (value_cmp (rowid r) (rowid new)) refl (or_parts _ _ free).0 (put_other new rows fails (or_parts _ _ free).1)
    where
      go : (o : Ordering) → value_cmp (rowid r) (rowid new) ≡ o → is_eq (value_cmp (rowid r) (rowid new)) ≡ false → filter p (put_row new rows) ≡ filter p rows → filter p (put_row new (r ∷ rows)) ≡ filter p (r ∷ rows)
      go Less is other rest = rw is (ap (λ l. cond (p r) (r ∷ l) l) rest)
      go Equal is other rest = absurd (true≢false (sym (ap is_eq is) ∙ other))
      go Greater is other rest = rw (is, fails) refl

  -- a row that passes is the only one where none did
  pub put_only : (new : Row) (rows : List Row) → p new ≡ true → filter p rows ≡ [] → filter p (put_row new rows) ≡ new ∷ []
  put_only new [] passes none = rw passes refl
  put_only new (r ∷ rows) passes none = go (value_cmp (rowid r) (rowid new)) refl (first_fails (p r) r (filter p rows) none).0 (first_fails (p r) r (filter p rows) none).1 (put_only new rows passes)
    where
      go : (o : Ordering) → value_cmp (rowid r) (rowid new) ≡ o → p r ≡ false → filter p rows ≡ [] → (filter p rows ≡ [] → filter p (put_row new rows) ≡ new ∷ []) → filter p (put_row new (r ∷ rows)) ≡ new ∷ []
      go Less is fails rest later = rw (is, fails) (later rest)
      go Equal is fails rest later = rw (is, passes, rest) refl
      go Greater is fails rest later = rw (is, passes, fails, rest) refl

-- no row that is left has a rowid that was taken out
pub left_apart : (ids : List ℤ) (rows : List Row) (x : Row) (id : ℤ) → Has (without_all rows ids) x → Has ids id → has_rowid id x ≡ false
left_apart [] rows x id h k = absurd k
left_apart (i ∷ ids) rows x id h (inl same) = rw same (not-true _ (has_filtered _ rows x (without_all_has ids (without_rowid i rows) x h)).1)
left_apart (i ∷ ids) rows x id h (inr later) = left_apart ids (without_rowid i rows) x id h later

left_rise : (ids : List ℤ) (rows : List Row) → IsTable rows → IsTable (without_all rows ids)
left_rise [] rows up = up
left_rise (id ∷ ids) rows up = left_rise ids (without_rowid id rows) (ascending_filter _ _ rows up)

-- the rows stay those of a table
pub left_shaped : (ids : List ℤ) (rows : List Row) → IsShaped Table rows → IsShaped Table (without_all rows ids)
left_shaped ids rows was = (left_rise ids rows was.0, all_from _ _ (λ r h. all_has _ rows r was.1 (without_all_has ids rows r h)))

pub put_shaped : (new : Row) (rows : List Row) → IsTrue (is_int (rowid new)) → IsShaped Table rows → IsShaped Table (put_row new rows)
put_shaped new rows keyed was =
    (IsTable-put_row new rows was.0, all_from _ _ (λ r h. elim (put_has new rows r h) [ inl same ↦ rw same keyed | inr old ↦ all_has _ rows r was.1 old ]))

-- Reading entries one after the other, as a loop does.
use Rattle.std.proofs.Common.{◌≡◌, ℕ, suc, ◌+◌, ◌<◌, ◌≤◌, List, [], ◌∷◌, ◌++◌, drop, length, slice_index_or, Some, Result, Ok, Err, sym, ap, ◌∙◌, arith}
use Rattle.std.proofs.Math.Seq.{drop-cons}
use Rattle.std.proofs.lemmas.List.{drop_all}
use Rattle.toml.specs.Data.{Data}
use Rattle.toml.specs.View.{view, items_view}
use Rattle.toml.specs.declared.value.Value.{Value}
use Rattle.lisp_sites.specs.declared.fault.ConfigFault.{ConfigFault}
use Rattle.lisp_sites.specs.declared.field.Field.{Field}
use Rattle.lisp_sites.specs.declared.place.Place.{Place}
use Rattle.lisp_sites.specs.declared.place.PlacedFault.{PlacedFault}
use Rattle.lisp_records.specs.Result.{◌>>=◌}
use Rattle.lisp_sites.specs.Table.{FailsAt, within, in_entry, each, one_more}
use Rattle.lisp_sites.proofs.Told.{FailsAt-passed}

module _ {X : Type 0} (array : Field) (read : List X → Data → Result X PlacedFault) (values : List Value) (before : List X) (i : ℕ) (total : Result (List X) PlacedFault)
    (so_far : each array read before (i + 1) (items_view (drop i values)) ≡ total) where
  -- what is read after the next entry
  after : Result X PlacedFault → Result (List X) PlacedFault
  after r = in_entry array (i + 1) r >>= λ x. each array read (before ++ x ∷ []) (i + 1 + 1) (items_view (drop (i + 1) values))

  next : (v : Value) → i < length values → v ≡ slice_index_or values i v → total ≡ after (read before (view v))
  unfolding after each
  next v lt at =
      let following : suc i ≡ i + 1 = omega arith in
      let rest : drop i values ≡ v ∷ drop (i + 1) values = drop-cons values i v lt ∙ ap (λ (n : ℕ). slice_index_or values i v ∷ drop n values) following ∙ ap (λ (w : Value). w ∷ drop (i + 1) values) (sym at) in
      sym so_far ∙ ap (λ (vs : List Value). each array read before (i + 1) (items_view vs)) rest

  then : (r : Result X PlacedFault) (xs : List X) → (r >>= λ x. Ok (before ++ x ∷ [])) ≡ Ok xs → after r ≡ each array read xs (i + 1 + 1) (items_view (drop (i + 1) values))
  unfolding after
  then (Ok x) xs e = let same : before ++ x ∷ [] ≡ xs = cc in ap (λ (ys : List X). each array read ys (i + 1 + 1) (items_view (drop (i + 1) values))) same
  then (Err e) xs h = cc h

  stops : (r : Result X PlacedFault) (e : PlacedFault) → (r >>= λ x. Ok (before ++ x ∷ [])) ≡ Err e → after r ≡ Err (within array (i + 1) e)
  unfolding after
  stops (Ok x) e h = cc h
  stops (Err f) e h = let same : f ≡ e = cc in ap (λ (g : PlacedFault). Err (within array (i + 1) g)) same

  -- one more entry is read
  pub goes_on : (v : Value) (xs : List X) → i < length values → v ≡ slice_index_or values i v → one_more read before (view v) ≡ Ok xs → each array read xs (i + 1 + 1) (items_view (drop (i + 1) values)) ≡ total
  goes_on v xs lt at reads = sym (next v lt at ∙ then (read before (view v)) xs reads)

  -- the next entry isn't read
  pub ends : (v : Value) (e : ConfigFault) (p : Place) → i < length values → v ≡ slice_index_or values i v → FailsAt e p (one_more read before (view v)) → FailsAt e (record { entry = Some (record { array = array; number = i + 1 }); part = p.entry }) total
  ends v e p lt at fails = FailsAt-passed e p _ (one_more read before (view v)) total (λ f reads. next v lt at ∙ stops (read before (view v)) (record { fault = f; place = p }) reads) fails

  -- all entries are read
  pub is_done : length values ≤ i → total ≡ Ok before
  unfolding each
  is_done le = sym so_far ∙ ap (λ (vs : List Value). each array read before (i + 1) (items_view vs)) (drop_all i values le)

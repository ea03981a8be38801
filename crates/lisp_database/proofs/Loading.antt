-- What a load finds in the table.
use Rattle.std.proofs.Common.{◌≡◌, ◌⊎◌, inl, inr, ℕ, List, [], ◌∷◌, length, map, filter, Bool, cond, Option, Some, None, Result, Ok, Err, append-nil, refl, sym, ap, subst, ◌∙◌, arith}
use Rattle.std.specs.List.{list_all}
use Rattle.std.specs.List.Sorted.{IsPermutation}
use Rattle.std.specs.Prelude.{IfOk, OnOk, OnErr}
use Rattle.std.proofs.lemmas.List.Sorted.{length_permutation}
use Rattle.sqlite.specs.declared.error.Error.{Error}
use Rattle.sqlite.specs.declared.error.Error.TheVariants.{QueryReturnedNoRows}
use Rattle.sqlite.specs.declared.types.Value.TheVariants.{Null}
use Rattle.sqlite.specs.Order.{Row, column}
use Rattle.sqlite.specs.Term.{Env, holds}
use Rattle.sqlite.specs.Query.{IsAnswer, output, Output, page}
use Rattle.sqlite.specs.Program.{overlay}
use Rattle.sqlite.specs.Tree.{Trees}
use Rattle.sqlite.specs.Effect.{Database, IsDatabase, RefusesToRead}
use Rattle.sqlite.specs.State.{State, IsLive, IsUnchanged, IsNotRun, Survives, Shown, QueriesRow, FailsToQuery, CommitsShowing, store_error}
use Rattle.sqlite.specs.Listing.{understood}
use Rattle.sqlite_value.specs.Keys.{first_key}
use Rattle.sqlite_trees.specs.declared.error.StoreError.{StoreError}
use Rattle.sqlite_trees.specs.declared.error.StoreError.TheVariants.{OutOfMemory, Io, Corrupt, Full, Broken, Unstorable}
use Rattle.sqlite_schema.specs.Rules.{Keeps as Keep}
use Rattle.sqlite_schema.specs.declared.schema.Constraint.TheVariants.{Unique}
use Rattle.sqlite_rules.proofs.ListLemmas.{has_filtered}
use Rattle.sqlite_catalog.proofs.LayoutLemmas.{ascending_filter}
use Rattle.sqlite.proofs.Callers.{IsPlain, command_of, first_as, reads_as, one_permutation, never_commits}
use Rattle.sqlite.proofs.StateLemmas.{survives_weaker}
use Rattle.lisp_nonces.specs.declared.pair.Pair.{Pair}
use Rattle.lisp_database.specs.Columns.{key_of, nonce_column}
use Rattle.lisp_database.specs.Schema.{nonces_schema}
use Rattle.lisp_database.specs.Table.{load_text, Loads, LoadFails}
use Rattle.lisp_database.specs.Kept.{HasTables, IsOfNonces, is_row_of, rows_of, Keeps, LeavesAll}
use Rattle.lisp_database.proofs.Meaning.{load_plain}
use Rattle.lisp_database.proofs.LoadQuery.{query, load_is, load_unlisted}
use Rattle.lisp_database.proofs.Alone.{at_most_one, same_row}
use Rattle.lisp_database.proofs.Picking.{picked}

no_items : {X : Type 0} (xs : List X) → length xs ≡ 0 → xs ≡ []
no_items [] h = refl
no_items (x ∷ xs) h = absurd (omega (arith, h))

-- ---- a pair has one row at most

module _ (pair : Pair) (db : Database) (has : IsOfNonces db) (is : IsDatabase db) where
  pub one_row : (rows_of db.trees pair ≡ []) ⊎ ((row : Row) × (rows_of db.trees pair ≡ row ∷ []))
  one_row = at_most_one (rows_of db.trees pair) (ascending_filter _ (is_row_of pair) (db.trees 0) has.rows.0) (λ a b h k.
      let p = has_filtered (is_row_of pair) (db.trees 0) a h in
      let q = has_filtered (is_row_of pair) (db.trees 0) b k in
      same_row pair db.trees has.rows (subst (λ s. Keep Unique s db.trees) has.tables (is.obeys.rules Unique)) a b p.0 q.0 p.1 q.1)

-- ---- the answer of the query

module _ (pair : Pair) (db : Trees) where
  abbrev env : Row → Env
  env r = key_of pair ∷ r ∷ []

  abbrev chosen : Row → Bool
  chosen r = list_all (holds (env r)) query.filter

  same_test : (r : Row) → chosen r ≡ is_row_of pair r
  unfolding first_key
  same_test r = refl

  pub its_are : (rows : List Row) → filter chosen rows ≡ filter (is_row_of pair) rows
  its_are [] = refl
  its_are (r ∷ rows) = rw (same_test r) (ap (λ l. cond (is_row_of pair r) (r ∷ l) l) (its_are rows))

  abbrev nonce_row : Row → Row
  nonce_row r = column r 5 ∷ []

  answer_is : (answer : List Row) → IsAnswer query db (key_of pair) answer → (rows_of db pair ≡ []) ⊎ ((row : Row) × (rows_of db pair ≡ row ∷ [])) → answer ≡ map nonce_row (rows_of db pair)
  answer_is answer a its =
      let kept : a.kept ≡ map (output query) (map env (rows_of db pair)) = a.distinct ∙ ap (map (output query)) (a.grouped ∙ picked chosen env (db 0) ∙ ap (map env) (its_are (db 0))) in
      elim its [
        | inl none ↦
            let empty = length_permutation a.kept a.ordered a.same in
            let ordered : a.ordered ≡ [] = no_items a.ordered (empty ∙ ap length (kept ∙ ap (λ rows. map (output query) (map env rows)) none)) in
            a.shown ∙ ap (λ xs. page query (key_of pair) (map (λ (p : Output). p.1) xs)) ordered ∙ sym (ap (map nonce_row) none)
        | inr one ↦
            let o : Output = ([], nonce_row one.0) in
            let alone : a.kept ≡ o ∷ [] = kept ∙ ap (λ rows. map (output query) (map env rows)) one.1 in
            let ordered = one_permutation o a.ordered (subst (λ k. IsPermutation k a.ordered) alone a.same) in
            a.shown ∙ ap (λ xs. page query (key_of pair) (map (λ (p : Output). p.1) xs)) ordered ∙ sym (ap (map nonce_row) one.1)
      ]

  keeps_one : (row : Row) (tail : List Row) (nonce : ℕ) → (rows_of db pair ≡ []) ⊎ ((row : Row) × (rows_of db pair ≡ row ∷ [])) → row ∷ tail ≡ map nonce_row (rows_of db pair) → column row 0 ≡ nonce_column nonce → Keeps db pair (Some nonce)
  keeps_one row tail nonce (inl none) is digits = absurd (let e = is ∙ ap (map nonce_row) none in cc)
  keeps_one row tail nonce (inr one) is digits =
      let e = is ∙ ap (map nonce_row) one.1 in
      let first : row ≡ nonce_row one.0 = cc in
      ap (map (λ r. column r 5)) one.1 ∙ ap (λ v. v ∷ []) (sym (ap (λ (r : Row). column r 0) first) ∙ digits)

  keeps_none : (rows_of db pair ≡ []) ⊎ ((row : Row) × (rows_of db pair ≡ row ∷ [])) → [] ≡ map nonce_row (rows_of db pair) → Keeps db pair None
  keeps_none (inl none) is = ap (map (λ r. column r 5)) none
  keeps_none (inr one) is = absurd (let e = is ∙ ap (map nonce_row) one.1 in cc)

-- ---- what the call leaves

shown_same : (old new : State) (pair : Pair) (rows : List Row) → HasTables old → Shown load_text (key_of pair) old new rows → IsUnchanged old new
unfolding Shown
shown_same old new pair rows has h =
    let bare = (subst IsPlain (sym (sym h.1.is ∙ ap (λ s. understood s load_text) has)) load_plain).0 in
    (rw bare at h.2).3

pub row_same : (old new : State) (pair : Pair) (row : Row) → HasTables old → QueriesRow load_text (key_of pair) old new (Ok row) → IsUnchanged old new
unfolding QueriesRow
row_same old new pair row has (inl h) = h.1
row_same old new pair row has (inr h) = shown_same old new pair h.0 has h.1

no_store_error : (cause : StoreError) → QueryReturnedNoRows ≡ store_error cause → ⊥
no_store_error OutOfMemory h = cc
no_store_error Io h = cc
no_store_error Corrupt h = cc
no_store_error Full h = cc
no_store_error Broken h = cc
no_store_error Unstorable h = cc

not_run : (old new : State) (pair : Pair) → IsNotRun old new load_text (key_of pair) QueryReturnedNoRows → ⊥
unfolding IsNotRun
not_run old new pair (inl (inl fault, _)) = let e = fault.2 in cc
not_run old new pair (inl (inr why, _)) = elim why.2 [ inl many ↦ let e = many.1 in cc | inr other ↦ elim other [ inl count ↦ let e = count.1 in cc | inr clock ↦ let e = clock.1 in cc ] ]
not_run old new pair (inr fails) = no_store_error fails.0 fails.1

left_by_failure : (old new : State) (pair : Pair) (e : Error) → HasTables old → FailsToQuery load_text (key_of pair) old new e → LeavesAll old new
unfolding FailsToQuery IsNotRun
left_by_failure old new pair e has (inl (inl h)) = inl h.1
left_by_failure old new pair e has (inl (inr h)) = inr h.3
left_by_failure old new pair e has (inr h) =
    let bare = (subst IsPlain (sym (sym h.1.is ∙ ap (λ s. understood s load_text) has)) load_plain).0 in
    inl (rw bare at h.2).3

no_failure : (old new : State) (pair : Pair) → HasTables old → FailsToQuery load_text (key_of pair) old new QueryReturnedNoRows → ⊥
unfolding FailsToQuery
no_failure old new pair has (inl h) = not_run old new pair h
no_failure old new pair has (inr h) =
    let known = sym h.1.is ∙ ap (λ s. understood s load_text) has in
    let bare = subst IsPlain (sym known) load_plain in
    let shows = rw (bare.0, bare.1, append-nil (key_of pair)) at h.2 in
    let refuses = subst (λ command. RefusesToRead old.step_limit command shows.0 (key_of pair) QueryReturnedNoRows) (ap command_of known ∙ load_is) shows.2 in
    elim refuses [ inl types ↦ let e = types.0 in cc | inr other ↦ elim other [ inl sum ↦ let e = sum.0 in cc | inr steps ↦ let e = steps.0 in cc ] ]

none_shown : (old new : State) (pair : Pair) → HasTables old → QueriesRow load_text (key_of pair) old new (Err QueryReturnedNoRows) → Shown load_text (key_of pair) old new []
unfolding QueriesRow
none_shown old new pair has (inl fails) = absurd (no_failure old new pair has fails)
none_shown old new pair has (inr h) = h.1

-- ---- the clauses of a load

pub sound : (old new : State) → IsUnchanged old new → IsLive old → IsDatabase old.now
sound old new same alive = (alive same.0.was_open).0

pub kept : (old new : State) (pair : Pair) (r : Result (Option ℕ) Error) → IsOfNonces old.now → IsLive old → IfOk r (Loads old new pair) → IfOk r (Keeps old.now.trees pair)
kept old new pair (Err e) has alive h = tt
kept old new pair (Ok None) has alive h =
    let shown = none_shown old new pair has.tables h in
    let one = one_row pair old.now has (sound old new (shown_same old new pair [] has.tables shown) alive) in
    let read = reads_as load_text (key_of pair) old new nonces_schema has.tables _ load_is load_plain load_unlisted [] shown in
    keeps_none pair old.now.trees one (answer_is pair (overlay old.now.trees []) [] (read.answer Null) one)
kept old new pair (Ok (Some nonce)) has alive h =
    let one = one_row pair old.now has (sound old new (row_same old new pair h.0 has.tables h.2) alive) in
    let got = (first_as load_text (key_of pair) old new nonces_schema has.tables _ load_is load_plain load_unlisted h.0 h.2).1 in
    keeps_one pair old.now.trees h.0 got.0 nonce one (answer_is pair (overlay old.now.trees []) (h.0 ∷ got.0) (got.1 Null) one) h.1

pub unchanged : (old new : State) (pair : Pair) (r : Result (Option ℕ) Error) → HasTables old → IfOk r (Loads old new pair) → OnOk r (IsUnchanged old new)
unchanged old new pair (Err e) has h = tt
unchanged old new pair (Ok None) has h = shown_same old new pair [] has (none_shown old new pair has h)
unchanged old new pair (Ok (Some nonce)) has h = row_same old new pair h.0 has h.2

left_by_error : (old new : State) (pair : Pair) (e : Error) → HasTables old → QueriesRow load_text (key_of pair) old new (Err e) → LeavesAll old new
unfolding QueriesRow
left_by_error old new pair e has (inl fails) = left_by_failure old new pair e has fails
left_by_error old new pair e has (inr h) = inl (shown_same old new pair [] has h.1)

pub failed : (old new : State) (pair : Pair) (r : Result (Option ℕ) Error) → HasTables old → OnErr r (LoadFails old new pair) → OnErr r (LeavesAll old new)
failed old new pair (Ok found) has h = tt
failed old new pair (Err e) has (inl h) = inl (row_same old new pair h.0 has h.1)
failed old new pair (Err e) has (inr h) = left_by_error old new pair h.0 has h.1

pub crash : (old new : State) (pair : Pair) → Survives old new (CommitsShowing load_text (key_of pair) old) → Survives old new (λ _. ¬ (HasTables old))
crash old new pair = survives_weaker old new _ _ (λ _ db commits has. never_commits load_text (key_of pair) old db (subst (λ s. IsPlain (understood s load_text)) (sym has) load_plain) commits)

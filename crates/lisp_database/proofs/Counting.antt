-- What the query that counts the pairs finds.
use Rattle.std.proofs.Common.{◌≡◌, inl, inr, ℕ, suc, pos, negsuc, min, List, [], ◌∷◌, length, map, filter, flat_map, codes, false, Some, Result, Ok, Err, refl, sym, ap, subst, ◌∙◌}
use Rattle.std.specs.List.{AllZip, list_all}
use Rattle.std.specs.List.Sorted.{IsPermutation}
use Rattle.std.specs.Prelude.{IfOk, OnOk}
use Rattle.std.proofs.lemmas.List.{length-map}
use Rattle.std.proofs.lemmas.List.Sorted.{length_permutation}
use Rattle.sqlite.specs.declared.error.Error.{Error}
use Rattle.sqlite.specs.declared.types.Value.{Value}
use Rattle.sqlite.specs.declared.types.Value.TheVariants.{Null, Int}
use Rattle.sqlite.specs.Order.{Row, column}
use Rattle.sqlite.specs.Term.{Env, lit, col, eval, holds}
use Rattle.sqlite_sql.specs.declared.aggregate.AggregateOp.TheVariants.{CountRows}
use Rattle.sqlite_sql.specs.Group.{Grouping, IsSummary, value_over}
use Rattle.sqlite.specs.Collation.TheVariants.{Binary}
use Rattle.sqlite.specs.Query.{Query, inner, end, IsAnswer, Output, output, page}
use Rattle.sqlite.specs.Command.TheVariants.{Select}
use Rattle.sqlite.specs.Program.{overlay}
use Rattle.sqlite.specs.Tree.{Trees}
use Rattle.sqlite.specs.State.{State, IsUnchanged, Shown, QueriesRow}
use Rattle.sqlite_tied.specs.Compute.{everything}
use Rattle.sqlite.specs.Listing.{understood, reads_listing}
use Rattle.sqlite.proofs.Callers.{IsPlain, command_of, first_as, one_permutation}
use Rattle.lisp_database.specs.Schema.{nonces_schema}
use Rattle.lisp_database.specs.Table.{count_text, Counts}
use Rattle.lisp_database.specs.Kept.{HasTables, CountsPairs}

abbrev pub grouping : Grouping
grouping = record {
  keys = [];
  collations = [];
  aggregates = record { op = CountRows; distinct = false; collation = Binary; argument = lit Null } ∷ [];
  having = [];
}

abbrev pub query : Query
query = record {
  from = inner 0 end;
  filter = [];
  group = Some grouping;
  project = col 1 0 ∷ [];
  distinct = false;
  collations = [];
  order = [];
  limit = lit (Int (negsuc 0));
  offset = lit (Int (pos 0));
}

count_unlisted : reads_listing nonces_schema count_text ≡ false
unfolding understood everything
count_unlisted = refl

count_is : command_of (understood nonces_schema count_text) ≡ Select (record { lets = []; body = query }) (codes "count(*)" ∷ [])
unfolding understood everything
count_is = refl

count_plain : IsPlain (understood nonces_schema count_text)
unfolding understood everything
count_plain = (refl, refl)

each_once : (env : Row → Env) (rows : List Row) → length (flat_map (λ r. env r ∷ []) rows) ≡ length rows
each_once env [] = refl
each_once env (r ∷ rows) = ap suc (each_once env rows)

-- what is counted of so many rows
abbrev pub told : ℕ → Value
told rows = Int (pos (min rows 9223372036854775807))

one_value : (order : List Env) (values : Row) → AllZip (λ a v. value_over order a ≡ Some v) grouping.aggregates values → values ≡ told (length order) ∷ []
one_value order [] h = absurd h
one_value order (v ∷ []) h =
    let e : Some (told (length order)) ≡ Some v = subst (λ n. Some (told n) ≡ Some v) (length-map order (eval (lit Null))) h.0 in
    let same : v ≡ told (length order) = cc in
    ap (λ (x : Value). x ∷ []) same
one_value order (v ∷ w ∷ values) h = absurd h.1

-- the one group is summarized in one row, of how many rows it has
summary : (order : List Env) (rows : List Row) → AllZip (IsSummary grouping) (order ∷ []) rows → rows ≡ (told (length order) ∷ []) ∷ []
summary order [] h = absurd h
summary order (row ∷ []) h = ap (λ (r : Row). r ∷ []) (h.0.2 ∙ one_value order h.0.0 h.0.1)
summary order (row ∷ r ∷ rows) h = absurd h.1

module _ (db : Trees) where
  abbrev env : Row → Env
  env r = [] ∷ r ∷ []

  answer_is : (rows : List Row) → IsAnswer query db [] rows → rows ≡ (told (length (db 0)) ∷ []) ∷ []
  answer_is rows a =
      let part = a.grouped.grouping in
      let summaries = subst (λ groups. AllZip (IsSummary grouping) groups a.grouped.rows) part.2 a.grouped.summaries in
      let one : a.grouped.rows ≡ (told (length part.0) ∷ []) ∷ [] = summary part.0 a.grouped.rows summaries in
      let long : length part.0 ≡ length (db 0) = length_permutation (flat_map (λ r. env r ∷ []) (db 0)) part.0 part.1 ∙ each_once env (db 0) in
      let rows_are : a.grouped.rows ≡ (told (length (db 0)) ∷ []) ∷ [] = one ∙ ap (λ n. (told n ∷ []) ∷ []) long in
      let staged : a.staged ≡ env (told (length (db 0)) ∷ []) ∷ [] = a.grouped.having ∙ ap (λ rs. filter (λ e. list_all (holds e) []) (map env rs)) rows_are in
      let o : Output = ([], told (length (db 0)) ∷ []) in
      let kept : a.kept ≡ o ∷ [] = a.distinct ∙ ap (map (output query)) staged in
      let ordered = one_permutation o a.ordered (subst (λ k. IsPermutation k a.ordered) kept a.same) in
      a.shown ∙ ap (λ xs. page query [] (map (λ (p : Output). p.1) xs)) ordered

pub counted : (old new : State) (r : Result ℕ Error) → HasTables old → IfOk r (Counts old new) → IfOk r (CountsPairs old.now.trees)
counted old new (Err e) has h = tt
counted old new (Ok count) has h =
    let got = (first_as count_text [] old new nonces_schema has _ count_is count_plain count_unlisted h.0 h.2).1 in
    let is = answer_is (overlay old.now.trees []) (h.0 ∷ got.0) (got.1 Null) in
    let first : h.0 ≡ told (length (old.now.trees 0)) ∷ [] = cc in
    let same : Int (pos count) ≡ told (length (old.now.trees 0)) = sym h.1 ∙ ap (λ (r : Row). column r 0) first in
    cc

shown_same : (old new : State) (rows : List Row) → HasTables old → Shown count_text [] old new rows → IsUnchanged old new
unfolding Shown
shown_same old new rows has h =
    let bare = (subst IsPlain (sym (sym h.1.is ∙ ap (λ s. understood s count_text) has)) count_plain).0 in
    (rw bare at h.2).3

row_same : (old new : State) (row : Row) → HasTables old → QueriesRow count_text [] old new (Ok row) → IsUnchanged old new
unfolding QueriesRow
row_same old new row has (inl h) = h.1
row_same old new row has (inr h) = shown_same old new h.0 has h.1

pub unchanged : (old new : State) (r : Result ℕ Error) → HasTables old → IfOk r (Counts old new) → OnOk r (IsUnchanged old new)
unchanged old new (Err e) has h = tt
unchanged old new (Ok count) has h = row_same old new h.0 has h.2

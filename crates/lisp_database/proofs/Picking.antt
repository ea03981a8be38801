-- What a query picks of the table.
use Rattle.std.proofs.Common.{◌≡◌, inl, inr, List, [], ◌∷◌, map, filter, flat_map, Bool, true, false, ◌&&◌, cond, refl, sym, ap, subst, ◌∙◌}
use Rattle.std.specs.List.{list_all}
use Rattle.std.specs.List.Sorted.{IsPermutation}
use Rattle.std.proofs.lemmas.Bool.{cases_Bool, and_parts, and_from}
use Rattle.sqlite.specs.Order.{Row, column}
use Rattle.sqlite.specs.Ops.{is_null}
use Rattle.sqlite.specs.Collation.TheVariants.{Binary}
use Rattle.sqlite.specs.Term.{Env, holds}
use Rattle.sqlite.specs.Query.{IsAnswer, output, Output, page}
use Rattle.sqlite.specs.Tree.{Trees, rowid}
use Rattle.sqlite_schema.specs.Rules.{equal}
use Rattle.sqlite_trees.specs.View.{IsShaped}
use Rattle.sqlite_trees.specs.declared.store.Shape.TheVariants.{Table}
use Rattle.sqlite_catalog.proofs.LayoutLemmas.{ascending_filter}
use Rattle.sqlite_rules.specs.Lists.{Has}
use Rattle.sqlite_rules.proofs.ListLemmas.{all_has, has_filtered, has_kept}
use Rattle.sqlite_rules.proofs.TableLemmas.{int_is}
use Rattle.sqlite_rules.proofs.PlaceLemmas.{tied_same}
use Rattle.sqlite.proofs.Callers.{one_permutation}
use Rattle.lisp_database.proofs.Meaning.{change}
use Rattle.lisp_database.proofs.Keys.{alike, tie}
use Rattle.lisp_database.proofs.Alone.{at_most_one}

-- each row that passes, in its order
pub picked : (chosen : Row → Bool) (env : Row → Env) (rows : List Row) → flat_map (λ r. cond (chosen r) (env r ∷ []) []) rows ≡ map env (filter chosen rows)
picked chosen env [] = refl
picked chosen env (r ∷ rows) = elim (cases_Bool (chosen r)) [ inl passes ↦ rw passes (ap (◌∷◌ (env r)) (picked chosen env rows)) | inr fails ↦ rw fails (picked chosen env rows) ]

-- ---- the row that a save changes

module _ (given : Row) (db : Trees) (row : Row) where
  abbrev env : Row → Env
  env r = given ∷ r ∷ []

  abbrev chosen : Row → Bool
  chosen r = list_all (holds (env r)) change.filter

  abbrev pub moved : Row
  moved = rowid row ∷ rowid row ∷ column given 0 ∷ column given 1 ∷ column given 2 ∷ column given 3 ∷ column given 4 ∷ []

  module _ (shaped : IsShaped Table (db 0)) (there : Has (db 0) row) (named : column given 5 ≡ rowid row) where
    same_test : (r : Row) → chosen r ≡ equal Binary (rowid r) (column given 5) && true
    same_test r = refl

    is_it : (r : Row) → Has (filter chosen (db 0)) r → r ≡ row
    is_it r h =
        let p = has_filtered chosen (db 0) r h in
        let ids = subst (λ v. equal Binary (rowid r) v ≡ true) named (and_parts _ _ (sym (same_test r) ∙ p.1)).0 in
        tied_same (db 0) r row shaped.0 p.0 there (tie (rowid r) (rowid row) ids)

    passes : chosen row ≡ true
    passes =
        let keyed : is_null (rowid row) ≡ false = rw (int_is (rowid row) (all_has _ (db 0) row shaped.1 there)) refl in
        same_test row ∙ and_from _ _ (subst (λ v. equal Binary (rowid row) v ≡ true) (sym named) (alike (rowid row) keyed)) refl

    only_it : filter chosen (db 0) ≡ row ∷ []
    only_it =
        let kept = has_kept chosen (db 0) row there passes in
        elim (at_most_one (filter chosen (db 0)) (ascending_filter _ chosen (db 0) shaped.0) (λ a b h k. is_it a h ∙ sym (is_it b k))) [
          | inl none ↦ absurd (subst (λ rows. Has rows row) none kept)
          | inr one ↦ one.1 ∙ ap (λ r. r ∷ []) (is_it one.0 (subst (λ rows. Has rows one.0) (sym one.1) (inl refl)))
        ]

    pub found : (answer : List Row) → IsAnswer change db given answer → answer ≡ moved ∷ []
    found answer a =
        let o : Output = ([], moved) in
        let alone : a.kept ≡ o ∷ [] = a.distinct ∙ ap (map (output change)) (a.grouped ∙ picked chosen env (db 0) ∙ ap (map env) only_it) in
        let ordered = one_permutation o a.ordered (subst (λ k. IsPermutation k a.ordered) alone a.same) in
        a.shown ∙ ap (λ xs. page change given (map (λ (p : Output). p.1) xs)) ordered

-- A pair has one row at most.
use Rattle.std.proofs.Common.{◌≡◌, ◌⊎◌, inl, inr, ℕ, List, [], ◌∷◌, true, false, not, ◌&&◌, Some, Ordering, Less, Equal, Greater, refl, sym, subst, ◌∙◌, true≢false}
use Rattle.std.specs.Ordering.{is_ne}
use Rattle.std.proofs.lemmas.Bool.{and_parts, and_from, not-true, false_from_ne_true}
use Rattle.std.proofs.lemmas.Cmp.{tied_itself}
use Rattle.sqlite.specs.Order.{Row, value_cmp}
use Rattle.sqlite.specs.Ops.{binary, is_true, from_truth}
use Rattle.sqlite.specs.Tree.{Trees, rowid}
use Rattle.sqlite_value.specs.Keys.{plain}
use Rattle.sqlite_value.proofs.OrderLemmas.{value_cmp_total}
use Rattle.sqlite_trees.specs.Tree.{IsTable}
use Rattle.sqlite_trees.specs.View.{is_int, IsShaped}
use Rattle.sqlite_trees.specs.declared.store.Shape.TheVariants.{Table}
use Rattle.sqlite_rules.specs.Lists.{Has}
use Rattle.sqlite_schema.specs.Rules.{agree, differ, clashes, guards, Keeps as Keep}
use Rattle.sqlite_schema.specs.declared.schema.Constraint.TheVariants.{Unique}
use Rattle.sqlite_rules.proofs.KeyLemmas.{agree_back, agree_chain}
use Rattle.sqlite_rules.proofs.ListLemmas.{all_has, some_from}
use Rattle.sqlite_rules.proofs.TableLemmas.{int_is}
use Rattle.sqlite_rules.proofs.PlaceLemmas.{tied_same}
use Rattle.lisp_nonces.specs.declared.pair.Pair.{Pair}
use Rattle.lisp_database.specs.Columns.{key_of}
use Rattle.lisp_database.specs.Schema.{key_places, nonces, nonces_index, nonces_schema}
use Rattle.lisp_database.specs.Kept.{is_row_of}

not_apart : (o : Ordering) → is_true (from_truth (Some (is_ne o))) ≡ false → o ≡ Equal
not_apart Less h = absurd (true≢false h)
not_apart Equal h = refl
not_apart Greater h = absurd (true≢false h)

ids_tie : (a b : Row) → is_int (rowid a) ≡ true → is_int (rowid b) ≡ true → differ (rowid a) (rowid b) ≡ false → value_cmp (rowid a) (rowid b) ≡ Equal
unfolding binary
ids_tie a b a_int b_int h =
    let p = int_is (rowid a) a_int in
    let q = int_is (rowid b) b_int in
    rw (p, q) (not_apart _ (rw (p, q) at h))

-- rows of which any two are one are one at most
pub at_most_one : (rows : List Row) → IsTable rows → ((a b : Row) → Has rows a → Has rows b → a ≡ b) → (rows ≡ []) ⊎ ((row : Row) × (rows ≡ row ∷ []))
at_most_one [] up same = inl refl
at_most_one (r ∷ []) up same = inr (r, refl)
at_most_one (r ∷ s ∷ more) up same =
    let lower = subst (λ (x : Row). value_cmp (rowid r) (rowid x) ≡ Less) (sym (same r s (inl refl) (inr (inl refl)))) up.0.0 in
    absurd (let tied = tied_itself value_cmp_total (rowid r) in cc)

-- the rule of the primary key makes two rows of a pair one
pub same_row : (pair : Pair) (db : Trees) → IsShaped Table (db 0) → Keep Unique nonces_schema db → (a b : Row) → Has (db 0) a → Has (db 0) b → is_row_of pair a ≡ true → is_row_of pair b ≡ true → a ≡ b
same_row pair db shaped rules a b a_there b_there a_its b_its =
    let places : List ℕ = 2 ∷ 1 ∷ 3 ∷ 0 ∷ [] in
    let one_key = agree_chain plain key_places places key_places a (key_of pair) b a_its (agree_back plain key_places places b (key_of pair) b_its) in
    let clash = guards nonces_index nonces && clashes plain key_places (db 0) b in
    let none = not-true clash (and_parts (not clash) true (all_has _ (db 0) b rules.0 b_there)).0 in
    let near = false_from_ne_true (differ (rowid a) (rowid b)) (λ apart.
    true≢false (sym (some_from (λ x. agree plain key_places x key_places b && differ (rowid x) (rowid b)) (db 0) a a_there (and_from _ _ one_key apart)) ∙ none)) in
    tied_same (db 0) a b shaped.0 a_there b_there (ids_tie a b (all_has _ (db 0) a shaped.1 a_there) (all_has _ (db 0) b shaped.1 b_there) near)

-- What a DELETE of the row of a pair makes of the table.
use Rattle.std.proofs.Common.{◌≡◌, ◌≢◌, ℕ, ℤ, true, List, [], ◌∷◌, map, filter, Option, None, Ok, refl, sym, ap, subst, ◌∙◌, true≢false}
use Rattle.std.specs.Ordering.{is_eq}
use Rattle.std.specs.declared.cmp.Ordering.TheVariants.{Equal}
use Rattle.std.proofs.lemmas.Bool.{false_from_ne_true}
use Rattle.std.proofs.lemmas.Cmp.{tied_itself}
use Rattle.sqlite.specs.declared.types.Value.TheVariants.{Null, Int}
use Rattle.sqlite.specs.Command.{Command}
use Rattle.sqlite.specs.Command.TheVariants.{Delete}
use Rattle.sqlite.specs.Order.{Row, column, value_cmp}
use Rattle.sqlite.specs.Term.{Env, col}
use Rattle.sqlite.specs.Query.{Query, IsAnswer, output}
use Rattle.sqlite.specs.Program.{overlay}
use Rattle.sqlite.specs.Tree.{Trees, rowid}
use Rattle.sqlite.specs.Effect.{Database}
use Rattle.sqlite.specs.Does.{Tally, Does}
use Rattle.sqlite.specs.Rows.{Written}
use Rattle.sqlite.specs.Listing.{understood}
use Rattle.sqlite.specs.declared.run.Mode.{Mode}
use Rattle.sqlite.proofs.Callers.{IsPlain, command_of, one_step}
use Rattle.sqlite_tied.specs.Compute.{everything}
use Rattle.sqlite_value.proofs.OrderLemmas.{value_cmp_total}
use Rattle.sqlite_trees.specs.Tree.{has_rowid}
use Rattle.sqlite_trees.specs.View.{IsShaped}
use Rattle.sqlite_trees.specs.declared.store.Shape.TheVariants.{Table}
use Rattle.sqlite_rules.specs.declared.error.Rowids.TheVariants.{Given}
use Rattle.sqlite_rules.specs.Calls.{ids_of}
use Rattle.sqlite_rules.specs.Edit.{id_in, edit_of, without_all}
use Rattle.sqlite_rules.specs.Lists.{Has}
use Rattle.sqlite_rules.proofs.ListLemmas.{all_has, has_filtered, has_kept}
use Rattle.sqlite_rules.proofs.PlaceLemmas.{tied_same}
use Rattle.sqlite_rules.proofs.TableLemmas.{int_is, without_all_has}
use Rattle.lisp_nonces.specs.declared.pair.Pair.{Pair}
use Rattle.lisp_store.specs.PairName.{IsPair}
use Rattle.lisp_database.specs.Columns.{key_of}
use Rattle.lisp_database.specs.Schema.{nonces, nonces_schema}
use Rattle.lisp_database.specs.Table.{forget_text}
use Rattle.lisp_database.specs.Kept.{IsOfNonces, is_row_of, rows_of, IsForgotten}
use Rattle.lisp_database.proofs.Finding.{has_mapped, has_image, is_of_one, each_is}
use Rattle.lisp_database.proofs.Keys.{one_pair}
use Rattle.lisp_database.proofs.Loading.{its_are}
use Rattle.lisp_database.proofs.Picking.{picked}
use Rattle.lisp_database.proofs.LoadQuery.{query}
use Rattle.lisp_database.proofs.Rows.{spared_by_all, none_passes, left_apart, left_shaped, equal_is}
use Rattle.lisp_database.proofs.Saving.{went, same_value}

-- the rowids of the rows that a load finds
abbrev pub chosen_ids : Query
chosen_ids = record query { project = col 1 0 ∷ [] }

abbrev pub command : Command
command = Delete 0 (record { lets = []; body = chosen_ids })

pub forget_is : command_of (understood nonces_schema forget_text) ≡ command
unfolding understood everything
forget_is = refl

pub forget_plain : IsPlain (understood nonces_schema forget_text)
unfolding understood everything
forget_plain = (refl, refl)

-- ---- the rowids that it finds are those of the rows of the pair

record AreIds (rows : List Row) (ids : List ℤ) : Type 0 where
  sound : (id : ℤ) → Has ids id → (row : Row) × Has rows row × (id ≡ id_in (rowid row))
  complete : (row : Row) → Has rows row → Has ids (id_in (rowid row))

module _ (pair : Pair) (db : Trees) (answer : List Row) (a : IsAnswer chosen_ids db (key_of pair) answer) where
  abbrev env : Row → Env
  env row = key_of pair ∷ row ∷ []

  kept : a.kept ≡ map (output chosen_ids) (map env (rows_of db pair))
  kept = a.distinct ∙ ap (map (output chosen_ids)) (a.grouped ∙ picked _ env (db 0) ∙ ap (map env) (its_are pair db (db 0)))

  ids_are : AreIds (rows_of db pair) (ids_of answer)
  ids_are = record {
    sound = λ id h.
        let shown = has_mapped (λ r. id_in (rowid r)) answer id h in
        let one = is_of_one chosen_ids env (rows_of db pair) answer a.kept a.ordered kept a.same a.shown shown.0 shown.1 in
        (one.0, one.1, shown.2 ∙ ap (λ r. id_in (rowid r)) one.2);
    complete = λ row h. has_image (λ r. id_in (rowid r)) answer (rowid row ∷ []) (each_is chosen_ids env (rows_of db pair) answer a.kept a.ordered kept a.same a.shown row h);
  }

-- ---- what is left without them

module _ (pair : Pair) (db : Trees) (shaped : IsShaped Table (db 0)) (ids : List ℤ) (are : AreIds (rows_of db pair) ids) where
  numbered : (row : Row) → Has (db 0) row → rowid row ≡ Int (id_in (rowid row))
  numbered row h = int_is (rowid row) (all_has _ (db 0) row shaped.1 h)

  has_own : (row : Row) → Has (db 0) row → has_rowid (id_in (rowid row)) row ≡ true
  has_own row h = ap (λ v. is_eq (value_cmp (rowid row) v)) (sym (numbered row h)) ∙ ap is_eq (tied_itself value_cmp_total (rowid row))

  none_left : filter (is_row_of pair) (without_all (db 0) ids) ≡ []
  none_left = none_passes (is_row_of pair) (without_all (db 0) ids) (λ r h. false_from_ne_true _ (λ its.
      let there = without_all_has ids (db 0) r h in
      let out = are.complete r (has_kept (is_row_of pair) (db 0) r there its) in
      true≢false (sym (has_own r there) ∙ left_apart ids (db 0) r (id_in (rowid r)) h out)))

  is_one_of : (r : Row) → Has (db 0) r → (id : ℤ) → Has ids id → has_rowid id r ≡ true → is_row_of pair r ≡ true
  is_one_of r h id out has =
      let it = are.sound id out in
      let its = has_filtered (is_row_of pair) (db 0) it.0 it.1 in
      let tied : value_cmp (rowid r) (rowid it.0) ≡ Equal = ap (λ v. value_cmp (rowid r) v) (numbered it.0 its.0 ∙ ap Int (sym it.2)) ∙ equal_is _ has in
      subst (λ row. is_row_of pair row ≡ true) (sym (tied_same (db 0) r it.0 shaped.0 h its.0 tied)) its.1

  others_stay : IsPair pair → (q : Pair) → IsPair q → q ≢ pair → filter (is_row_of q) (without_all (db 0) ids) ≡ rows_of db q
  others_stay is q q_is other =
      spared_by_all (is_row_of q) ids (db 0) (λ r h id out has. false_from_ne_true _ (λ its. other (one_pair q pair q_is is r its (is_one_of r h id out has))))

  forgets_rows : (new : Trees) → IsPair pair → new 0 ≡ without_all (db 0) ids → new 2 ≡ db 2 → IsShaped Table (new 0) × IsForgotten db new pair
  forgets_rows new is rows writer = (
    subst (IsShaped Table) (sym rows) (left_shaped ids (db 0) shaped),
    record {
      kept = ap (λ left. map (λ r. column r 5) (filter (is_row_of pair) left)) rows ∙ ap (map (λ r. column r 5)) none_left;
      others = λ q q_is other. ap (filter (is_row_of q)) rows ∙ others_stay is q q_is other;
      writer = writer;
    },
  )

-- ---- the statement

apart : ◌≡◌ {A = ℕ} 2 0 → ⊥
apart e = cc

module _ (limit : Option ℕ) (mode : Mode) (pair : Pair) (db after : Database) (text : List ℕ) (tally : Tally) where
  pub forgotten : IsOfNonces db → IsPair pair → Does limit mode (key_of pair) db text None command (Ok (tally, after)) → IsOfNonces after × IsForgotten db.trees after.trees pair
  forgotten has is done =
      let params = key_of pair in
      let written = went (subst (λ s. Does limit mode params (record db { schema = s }) text None command (Ok (tally, after))) has.tables done) in
      let now : after ≡ record { schema = nonces_schema; trees = written.0.trees } = ap (λ (p : Tally × Database). p.1) (same_value (went (went written.2).2).2) in
      let read = went written.1 in
      let ids = ids_of read.0 in
      let put = went read.2 in
      let step = one_step nonces_schema mode.keys db.trees put.0 (edit_of db.trees nonces ids Given 0 []) refl put.1 in
      let trees : after.trees ≡ put.0 = ap (λ (d : Database). d.trees) now ∙ ap (λ (w : Written). w.trees) (same_value put.2) in
      let are = ids_are pair (overlay db.trees []) read.0 (read.1.answer Null) in
      let made = forgets_rows pair db.trees has.rows ids are after.trees is (ap (λ (t : Trees). t 0) trees ∙ step.rows) (ap (λ (t : Trees). t 2) trees ∙ step.tables.1.0 apart) in
      (record { tables = ap (λ (d : Database). d.schema) now; rows = made.0 }, made.1)

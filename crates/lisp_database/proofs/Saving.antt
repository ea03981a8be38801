-- What a save does to the table.
use Rattle.std.proofs.Common.{◌≡◌, ◌≢◌, ◌⊎◌, inl, inr, ℕ, ℤ, pos, List, [], ◌∷◌, ◌++◌, map, filter, Bool, true, false, cond, Option, Some, None, Ok, Err, Result, Equal, refl, sym, ap, subst, ◌∙◌, true≢false, arith}
use Rattle.std.specs.Ordering.{is_eq}
use Rattle.std.proofs.lemmas.Bool.{and_parts, or_cases, not-true, false_from_ne_true}
use Rattle.std.proofs.lemmas.Cmp.{tied_itself}
use Rattle.sqlite.specs.declared.types.Value.{Value}
use Rattle.sqlite.specs.declared.types.Value.TheVariants.{Null, Int}
use Rattle.sqlite.specs.Order.{Row, column, value_cmp}
use Rattle.sqlite.specs.Ops.{unary}
use Rattle.sqlite.specs.Kind.TheVariants.{Integer}
use Rattle.sqlite.specs.Source.TheVariants.{Values}
use Rattle.sqlite.specs.Command.{Command}
use Rattle.sqlite.specs.Command.TheVariants.{InsertOr}
use Rattle.sqlite_schema.specs.declared.schema.Keys.{Keys}
use Rattle.sqlite_schema.specs.declared.command.Conflict.TheVariants.{Abort}
use Rattle.sqlite.specs.Edit.{edit_of, with_rowid, next_rowid}
use Rattle.sqlite.specs.Cast.{cast, cast_row}
use Rattle.sqlite.specs.Rowids.TheVariants.{Given, Chosen}
use Rattle.sqlite.specs.Does.{Tally, Does}
use Rattle.sqlite.specs.Rows.{Part, Then, Gives, Edited, Written, Task, Judged, Upserts, Meets, Clears, Puts, Updates, TriesEach, count_of, nothing, mended, shown}
use Rattle.sqlite.specs.Program.{overlay}
use Rattle.sqlite_schema.specs.Rules.{Keeps as Keep}
use Rattle.sqlite_schema.specs.declared.schema.Constraint.TheVariants.{Unique}
use Rattle.sqlite.specs.Tree.{Trees, rowid, put_row}
use Rattle.sqlite.specs.declared.run.Mode.{Mode}
use Rattle.sqlite_value.proofs.OrderLemmas.{value_cmp_total}
use Rattle.sqlite_trees.specs.Tree.{has_rowid}
use Rattle.sqlite_trees.specs.View.{IsShaped}
use Rattle.sqlite_trees.specs.declared.store.Shape.TheVariants.{Table}
use Rattle.sqlite_rules.specs.declared.error.Refusal.{Refusal}
use Rattle.sqlite_rules.specs.Lists.{Has}
use Rattle.sqlite_rules.specs.Edit.{id_in, without_all, is_taken, are_fresh}
use Rattle.sqlite_rules.specs.Keys.{conflicts, AreConflicts}
use Rattle.sqlite_rules.specs.Calls.{ids_of}
use Rattle.sqlite_rules.proofs.ListLemmas.{all_has, some_from}
use Rattle.sqlite_rules.proofs.PlaceLemmas.{tied_same, next_is_free}
use Rattle.sqlite_rules.proofs.TableLemmas.{int_is, has_put, put_all_keeps}
use Rattle.sqlite.specs.Effect.{Database}
use Rattle.sqlite.proofs.Callers.{one_step}
use Rattle.lisp_nonces.specs.declared.pair.Pair.{Pair}
use Rattle.lisp_store.specs.PairName.{IsPair}
use Rattle.lisp_database.specs.Columns.{row_of}
use Rattle.lisp_database.specs.Schema.{nonces, nonces_schema}
use Rattle.lisp_database.specs.Kept.{IsOfNonces, is_row_of, rows_of, IsSaved}
use Rattle.lisp_database.proofs.Meaning.{terms, change, upsert}
use Rattle.lisp_database.proofs.Rows.{spared_by_all, none_passes, put_other, put_only, left_shaped, put_shaped, equal_is}
use Rattle.lisp_database.proofs.Keys.{is_its, ids_tie, one_pair}
use Rattle.lisp_database.proofs.Alone.{same_row}
use Rattle.lisp_database.proofs.Picking.{found}

apart : ◌≡◌ {A = ℕ} 2 0 → ⊥
apart e = omega (arith, e)

either : (b : Bool) (x : Value) → cond b x x ≡ x
either true x = refl
either false x = refl

cast_int : (n : ℤ) → cast Integer (Int n) ≡ Int n
unfolding unary
cast_int n = either _ (Int n)

-- a part that gave a value did not stop on the way
pub went : {B E R : Type 0} {b : B} {Stops : E → Type 0} → ((stop : E) × Stops stop × (Ok b ≡ Err stop)) ⊎ R → R
went (inl stopped) = absurd (let e = stopped.2 in cc)
went (inr on) = on

pub same_value : {B E : Type 0} {a b : B} → ◌≡◌ {A = Result B E} (Ok a) (Ok b) → a ≡ b
same_value e = cc

-- the row as it is stored
abbrev pub stored : ℤ → Pair → ℕ → Row
stored id pair nonce = Int id ∷ row_of pair nonce

cast_null : cast Integer Null ≡ Null
unfolding unary
cast_null = either _ Null

-- it is not changed where it is put in, and has its rowid chosen where it has none
stays : (id : ℤ) (pair : Pair) (nonce : ℕ) → cast_row nonces (stored id pair nonce) ≡ stored id pair nonce
stays id pair nonce = rw (cast_int id, cast_int (pos pair.key)) refl

placed : (rows : List Row) (pair : Pair) (nonce : ℕ) → with_rowid Chosen rows (cast_row nonces (mended Abort nonces (Null ∷ row_of pair nonce))) ≡ stored (next_rowid rows) pair nonce
placed rows pair nonce = rw (cast_null, cast_int (pos pair.key)) refl

abbrev pub command : Command
command = InsertOr 0 Abort (Values terms 6) (upsert ∷ [])

-- ---- the row of a pair in the place of rows of it

-- The table has the row of the pair, and none that had one of these numbers, each of the pair.
record PutsRow (pair : Pair) (nonce : ℕ) (old new : Trees) : Type 0 where
  id : ℤ
  gone : List ℤ
  own : (r : Row) → Has (old 0) r → (k : ℤ) → Has gone k → has_rowid k r ≡ true → is_row_of pair r ≡ true
  free : is_taken (without_all (old 0) gone) (stored id pair nonce) ≡ false
  rows : new 0 ≡ put_row (stored id pair nonce) (without_all (old 0) gone)
  unique : Keep Unique nonces_schema new
  writer : new 2 ≡ old 2

module _ (pair : Pair) (nonce : ℕ) (old new : Trees) (shaped : IsShaped Table (old 0)) (put : PutsRow pair nonce old new) where
  abbrev row : Row
  row = stored put.id pair nonce

  abbrev left : List Row
  left = without_all (old 0) put.gone

  still_shaped : IsShaped Table (new 0)
  still_shaped = subst (IsShaped Table) (sym put.rows) (put_shaped row left refl (left_shaped put.gone (old 0) shaped))

  none_left : filter (is_row_of pair) left ≡ []
  none_left = none_passes (is_row_of pair) left (λ r h. false_from_ne_true _ (λ its.
      let fresh : are_fresh left (row ∷ []) ≡ true = rw (put.free) refl in
      let there = subst (λ rows. Has rows r) (sym put.rows) (put_all_keeps (row ∷ []) left r fresh h) in
      let it = subst (λ rows. Has rows row) (sym put.rows) (has_put row left) in
      let same = same_row pair new still_shaped put.unique r row there it its (is_its (Int put.id) pair nonce) in
      let tied = subst (λ x. is_eq (value_cmp (rowid x) (rowid row)) ≡ true) (sym same) (ap is_eq (tied_itself value_cmp_total (rowid row))) in
      true≢false (sym (some_from (λ x. is_eq (value_cmp (rowid x) (rowid row))) left r h tied) ∙ put.free)))

  others_stay : (is : IsPair pair) (q : Pair) → IsPair q → q ≢ pair → filter (is_row_of q) (put_row row left) ≡ filter (is_row_of q) (old 0)
  others_stay is q q_is other =
      put_other (is_row_of q) row left (false_from_ne_true _ (λ its. other (one_pair q pair q_is is row its (is_its (Int put.id) pair nonce)))) put.free
      ∙ spared_by_all (is_row_of q) put.gone (old 0) (λ r h k out has. false_from_ne_true _ (λ its. other (one_pair q pair q_is is r its (put.own r h k out has))))

  saves_row : IsPair pair → IsSaved old new pair nonce
  saves_row is =
      let of : (q : Pair) → rows_of new q ≡ filter (is_row_of q) (put_row row left) = λ q. ap (filter (is_row_of q)) put.rows in
      record {
        kept = ap (map (λ r. column r 5)) (of pair ∙ put_only (is_row_of pair) row left (is_its (Int put.id) pair nonce) none_left);
        others = λ q q_is other. of q ∙ others_stay is q q_is other;
        writer = put.writer;
      }

-- ---- the statement

module _ (task : Task) (new : Row) (db : Trees) (one : Written) where
  judged : (verdict : Option Refusal) → Judged task Abort (upsert ∷ []) new db verdict (Ok one) → Upserts task Abort new db (upsert ∷ []) (Ok one)
  judged None h = h
  judged (Some why) h = absurd (let e = h in cc)

  inserted : (found : List Row) → Clears task Abort new db found (Ok one) → Puts task new db (Ok one)
  inserted [] h = h
  inserted (x ∷ more) h = h

-- what a change makes of the rows that it found
abbrev Changed : Task → Trees → List Row → Part Written
Changed task db rows = Then (Edited task.schema task.keys db (edit_of db task.table (ids_of rows) Given 1 rows)) (λ next. Gives (record { trees = next; rows = (edit_of db task.table (ids_of rows) Given 1 rows).news; last = None }))

abbrev task_of : Option ℕ → Keys → Row → Task
task_of limit keys params = record { limit = limit; keys = keys; schema = nonces_schema; table = nonces; params = params }

module _ (limit : Option ℕ) (keys : Keys) (pair : Pair) (nonce : ℕ) (db : Trees) (shaped : IsShaped Table (db 0)) (one : Written) where
  abbrev task : Task
  task = task_of limit keys (row_of pair nonce)

  -- the row where it is put in
  abbrev next : Row
  next = stored (next_rowid (db 0)) pair nonce

  -- a row that is in the way of it is one of the pair
  taken_is_its : (r : Row) → Has (db 0) r → conflicts None nonces_schema.indexes nonces next r ≡ true → is_row_of pair r ≡ true
  taken_is_its r h meets = elim (or_cases _ _ meets) [
    | inl same ↦ absurd (true≢false (sym (some_from (λ x. is_eq (value_cmp (rowid x) (rowid next))) (db 0) r h (ap is_eq (ids_tie r next same))) ∙ next_is_free Chosen (db 0) (row_of pair nonce) shaped.0 shaped.1))
    | inr shares ↦ elim (or_cases _ _ shares) [ inl its ↦ its | inr none ↦ absurd (true≢false (sym none)) ]
  ]

  -- where none is, it is put in
  puts : Puts task next db (Ok one) → PutsRow pair nonce db one.trees
  puts h =
      let put = went h in
      let edit = edit_of db nonces [] Given 0 (next ∷ []) in
      let step = one_step nonces_schema keys db put.0 edit refl put.1 in
      let cast = stays (next_rowid (db 0)) pair nonce in
      let trees : one.trees ≡ put.0 = ap (λ (w : Written). w.trees) (same_value put.2) in
      record {
        id = next_rowid (db 0);
        gone = [];
        own = λ r h k out is. absurd out;
        free = subst (λ r. is_taken (db 0) r ≡ false) cast (not-true _ (and_parts _ _ step.fresh).0);
        rows = ap (λ (t : Trees). t 0) trees ∙ step.rows ∙ ap (λ r. put_row r (db 0)) cast;
        unique = subst (Keep Unique nonces_schema) (sym trees) (step.fits.rules Unique (λ e. cc));
        writer = ap (λ (t : Trees). t 2) trees ∙ step.tables.1.0 (apart);
      }

  -- where one is, it gets the columns
  module _ (shown_id r : Row) (there : Has (db 0) r) (its : is_row_of pair r ≡ true) (is : shown_id ≡ rowid r ∷ []) where
    abbrev number : ℤ
    number = id_in (rowid r)

    abbrev given : Row
    given = row_of pair nonce ++ rowid shown_id ∷ shown nonces next

    numbered : rowid r ≡ Int number
    numbered = int_is (rowid r) (all_has _ (db 0) r shaped.1 there)

    own : (x : Row) → Has (db 0) x → (k : ℤ) → Has (number ∷ []) k → has_rowid k x ≡ true → is_row_of pair x ≡ true
    own x h k (inl same) has =
        let tied : value_cmp (rowid x) (rowid r) ≡ Equal = ap (λ v. value_cmp (rowid x) v) (numbered ∙ ap Int (sym same)) ∙ equal_is _ has in
        subst (λ y. is_row_of pair y ≡ true) (sym (tied_same (db 0) x r shaped.0 h there tied)) its
    own x h k (inr none) has = absurd none

    changes : Updates task (record { lets = []; body = change }) given db (Ok one) → PutsRow pair nonce db one.trees
    changes h =
        let read = went h in
        let answer = found given (overlay db []) r shaped there (ap rowid is) read.0 (read.1.answer Null) in
        let row : Row = Int number ∷ stored number pair nonce in
        let is_row : read.0 ≡ row ∷ [] = answer ∙ ap (λ v. (v ∷ v ∷ row_of pair nonce) ∷ []) numbered in
        let put = went (subst (λ rows. Changed task db rows (Ok one)) is_row read.2) in
        let edit = edit_of db nonces (number ∷ []) Given 1 (row ∷ []) in
        let step = one_step nonces_schema keys db put.0 edit refl put.1 in
        let cast = stays number pair nonce in
        let trees : one.trees ≡ put.0 = ap (λ (w : Written). w.trees) (same_value put.2) in
        let left = without_all (db 0) (number ∷ []) in
        record {
          id = number;
          gone = number ∷ [];
          own = own;
          free = subst (λ r. is_taken left r ≡ false) cast (not-true _ (and_parts _ _ step.fresh).0);
          rows = ap (λ (t : Trees). t 0) trees ∙ step.rows ∙ ap (λ r. put_row r left) cast;
          unique = subst (Keep Unique nonces_schema) (sym trees) (step.fits.rules Unique (λ e. cc));
          writer = ap (λ (t : Trees). t 2) trees ∙ step.tables.1.0 (apart);
        }

  met : (found : List Row) → AreConflicts None nonces_schema.indexes nonces (db 0) next found → Meets task (Upserts task Abort next db []) next db upsert found (Ok one) → PutsRow pair nonce db one.trees
  met [] are h = puts (inserted task next db one h.0 h.2)
  met (there ∷ more) are h =
      let it = are.sound there (inl refl) in
      changes there it.0 it.1 (taken_is_its it.0 it.1 it.2) it.3 h

  upserted : Upserts task Abort next db (upsert ∷ []) (Ok one) → PutsRow pair nonce db one.trees
  upserted h = met h.0 h.1 h.2

module _ (limit : Option ℕ) (mode : Mode) (pair : Pair) (nonce : ℕ) (db after : Database) (text : List ℕ) (tally : Tally) where
  pub saved : IsOfNonces db → IsPair pair → Does limit mode (row_of pair nonce) db text None command (Ok (tally, after)) → IsOfNonces after × IsSaved db.trees after.trees pair nonce
  saved has is done =
      let params = row_of pair nonce in
      let task = task_of limit mode.keys params in
      let written = went (subst (λ s. Does limit mode params (record db { schema = s }) text None command (Ok (tally, after))) has.tables done) in
      let now : after ≡ record { schema = nonces_schema; trees = written.0.trees } = ap (λ (p : Tally × Database). p.1) (same_value (went (went written.2).2).2) in
      let given = went written.1 in
      let counted = went given.2 in
      let each = went counted.2 in
      let next = went each.2 in
      let tried = went (subst (λ rows. TriesEach task Abort (upsert ∷ []) rows (count_of counted.0) (nothing db.trees) (Ok each.0)) given.1.1 each.1) in
      let rows = db.trees 0 in
      let row = with_rowid Chosen rows (cast_row nonces (mended Abort nonces (Null ∷ row_of pair nonce))) in
      let upserts : Upserts task Abort row db.trees (upsert ∷ []) (Ok tried.0) = elim tried.1 [
        | inl none ↦ absurd (let e = none.1 in cc)
        | inr j ↦ judged task row db.trees tried.0 j.0 j.2
      ] in
      let put = upserted limit mode.keys pair nonce db.trees has.rows tried.0 (subst (λ n. Upserts task Abort n db.trees (upsert ∷ []) (Ok tried.0)) (placed rows pair nonce) upserts) in
      let trees : after.trees ≡ tried.0.trees =
      ap (λ (d : Database). d.trees) now ∙ ap (λ (w : Written). w.trees) (same_value next.2) ∙ same_value next.1
      ∙ ap (λ (d : Written × ℤ). d.0.trees) (same_value tried.2) in
      let made = subst (PutsRow pair nonce db.trees) (sym trees) put in (
        record { tables = ap (λ (d : Database). d.schema) now; rows = still_shaped pair nonce db.trees after.trees has.rows made },
        saves_row pair nonce db.trees after.trees has.rows made is,
      )

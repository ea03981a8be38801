-- What the two CREATEs make.
use Rattle.std.proofs.Common.{◌≡◌, inl, ℕ, false, [], map, filter, None, Ok, refl, sym, ap, subst, ◌∙◌, arith}
use Rattle.std.specs.Fmt.{digits}
use Rattle.sqlite.specs.Command.TheVariants.{CreateTable}
use Rattle.sqlite.specs.Change.{created, next_tree}
use Rattle.sqlite_catalog.specs.Change.{KeepsRows}
use Rattle.sqlite.specs.Does.{Tally, lacks_sequence}
use Rattle.sqlite.specs.Order.{column}
use Rattle.sqlite.specs.Tree.{Trees}
use Rattle.sqlite.specs.Effect.{Database}
use Rattle.sqlite.specs.State.{State, Writes, Executes, Shows, Survives}
use Rattle.sqlite.proofs.StateLemmas.{survives_weaker}
use Rattle.sqlite.proofs.Callers.{runs_as}
use Rattle.sqlite_trees.specs.View.{IsShaped}
use Rattle.sqlite_trees.specs.declared.store.Shape.TheVariants.{Table}
use Rattle.lisp_database.specs.Schema.{nonces, writer, nonces_schema, no_schema}
use Rattle.lisp_database.specs.Table.{create_text, create_writer_text}
use Rattle.lisp_database.specs.Kept.{HasNothing, AreMade, MakesTables, is_row_of}
use Rattle.lisp_database.proofs.Meaning.{one_schema, create_is, create_plain, create_writer_is, create_writer_plain}
use Rattle.lisp_database.proofs.Saving.{went, same_value}

first_schema : created no_schema nonces ≡ one_schema
unfolding digits
first_schema = refl

second_schema : created one_schema (record writer { tree = 0 }) ≡ nonces_schema
unfolding digits
second_schema = refl

first : (old new : State) (count : ℕ) → old.now.schema ≡ no_schema → Executes create_text [] old new (Ok count) → (new.now.schema ≡ one_schema) × (new.now.trees 0 ≡ [])
first old new count has h =
    let w = subst (λ t. Writes old new None CreateTable t [] count) create_is.1 (runs_as create_text [] old new no_schema has CreateTable create_is.0 create_plain count h) in
    let all = went w.changed in
    let table = went all.1 in
    let made = table.1 in
    let same = same_value (sym made.defined ∙ create_is.2) in
    let schema : table.0.schema ≡ one_schema = made.is ∙ ap (λ s. created s made.table) has ∙ ap (created no_schema) same ∙ first_schema in
    let plain : lacks_sequence table.0.schema ≡ false = ap lacks_sequence schema in
    let now : new.now ≡ table.0 = ap (λ (p : Tally × Database). p.1) (same_value all.2) ∙ same_value (rw plain at table.2) in
    (ap (λ (d : Database). d.schema) now ∙ schema, ap (λ (d : Database). d.trees 0) now ∙ subst (λ s. table.0.trees (next_tree s) ≡ []) has made.empty)

second : (old new : State) (count : ℕ) → old.now.schema ≡ one_schema → old.now.trees 0 ≡ [] → Executes create_writer_text [] old new (Ok count)
    → (new.now.schema ≡ nonces_schema) × (new.now.trees 0 ≡ []) × (new.now.trees 2 ≡ [])
second old new count has none h =
    let w = subst (λ t. Writes old new None CreateTable t [] count) create_writer_is.1 (runs_as create_writer_text [] old new one_schema has CreateTable create_writer_is.0 create_writer_plain count h) in
    let all = went w.changed in
    let table = went all.1 in
    let made = table.1 in
    let same = same_value (sym made.defined ∙ create_writer_is.2) in
    let schema : table.0.schema ≡ nonces_schema = made.is ∙ ap (λ s. created s made.table) has ∙ ap (created one_schema) same ∙ second_schema in
    let plain : lacks_sequence table.0.schema ≡ false = ap lacks_sequence schema in
    let now : new.now ≡ table.0 = ap (λ (p : Tally × Database). p.1) (same_value all.2) ∙ same_value (rw plain at table.2) in
    let kept = subst (λ s. KeepsRows s.tables old.now.trees table.0.trees) has made.others in (
      ap (λ (d : Database). d.schema) now ∙ schema,
      ap (λ (d : Database). d.trees 0) now ∙ kept.0 ∙ none,
      ap (λ (d : Database). d.trees 2) now ∙ subst (λ s. table.0.trees (next_tree s) ≡ []) has made.empty,
    )

pub both : (old mid last : State) (one two : ℕ) → old.now.schema ≡ no_schema → Executes create_text [] old mid (Ok one) → Executes create_writer_text [] mid last (Ok two)
    → (last.now.schema ≡ nonces_schema) × AreMade last.now.trees
both old mid last one two has h k =
    let a = first old mid one has h in
    let b = second mid last two a.0 a.1 k in
    (b.0, record { nonces = b.1; writer = b.2; nothing = λ pair. ap (λ rows. map (λ r. column r 5) (filter (is_row_of pair) rows)) b.1 })

pub tables_made : (last end : State) → (last.now.schema ≡ nonces_schema) × AreMade last.now.trees → Shows last end last.now last.now false → MakesTables end
tables_made last end made shows = record {
  table = record {
    tables = ap (λ (d : Database). d.schema) shows.now_is ∙ made.0;
    rows = subst (λ (d : Database). IsShaped Table (d.trees 0)) (sym shows.now_is) (subst (IsShaped Table) (sym made.1.nonces) (tt, tt));
  };
  made = subst (λ (d : Database). AreMade d.trees) (sym shows.now_is) made.1;
  committed = shows.committed_is ∙ sym shows.now_is;
}

-- no call, no change
pub survives_itself : (s : State) (P : Trees → Type 0) → Survives s s P
survives_itself s P = record { clean = omega arith; shield = λ h. h; counts = omega arith; limit = refl; closes = λ _ h. inl h; crash = λ _ db h. inl h }

pub survives_made : (old new : State) → Survives old new AreMade → Survives old new (λ db. HasNothing old → AreMade db)
survives_made old new = survives_weaker old new AreMade (λ db. HasNothing old → AreMade db) (λ _ db made _. made)

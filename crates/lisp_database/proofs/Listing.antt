-- What the query of all rows finds.
use Rattle.std.proofs.Common.{◌≡◌, inl, inr, pos, negsuc, List, [], ◌∷◌, map, filter, get_or, codes, false, true, All, Some, None, Result, Ok, Err, refl, sym, ap, subst, ◌∙◌}
use Rattle.std.specs.Prelude.{OnOk}
use Rattle.sqlite.specs.declared.types.Value.{Value}
use Rattle.sqlite.specs.declared.types.Value.TheVariants.{Null, Int}
use Rattle.sqlite.specs.Collation.TheVariants.{Binary}
use Rattle.sqlite.specs.Order.{Row, column}
use Rattle.sqlite.specs.Ops.{is_null}
use Rattle.sqlite.specs.Term.{Env, lit, col}
use Rattle.sqlite.specs.Query.{Query, inner, end, IsAnswer, output}
use Rattle.sqlite.specs.Command.TheVariants.{Select}
use Rattle.sqlite.specs.Program.{overlay}
use Rattle.sqlite.specs.Tree.{Trees}
use Rattle.sqlite.specs.Effect.{Database, IsDatabase}
use Rattle.sqlite.specs.State.{State, IsLive, IsUnchanged, Shown}
use Rattle.sqlite.specs.Listing.{understood, reads_listing}
use Rattle.sqlite.proofs.Callers.{IsPlain, command_of, reads_as}
use Rattle.sqlite_tied.specs.Compute.{everything}
use Rattle.sqlite_value.specs.Keys.{first_key}
use Rattle.sqlite_schema.specs.Rules.{equal}
use Rattle.sqlite_rules.specs.Lists.{Has}
use Rattle.sqlite_rules.proofs.ListLemmas.{has_filtered, has_kept, any_has}
use Rattle.std.proofs.lemmas.Bool.{and_from}
use Rattle.lisp_nonces.specs.declared.pair.Pair.{Pair}
use Rattle.lisp_store.specs.declared.kept_nonce.KeptNonce.{KeptNonce}
use Rattle.lisp_database.specs.Columns.{TellsPair, TellsNonce, IsTold}
use Rattle.lisp_database.specs.Schema.{nonces_schema}
use Rattle.lisp_database.specs.Table.{load_all_text}
use Rattle.lisp_database.specs.Kept.{HasTables, IsOfNonces, Keeps, is_row_of}
use Rattle.lisp_database.proofs.Finding.{is_of_one}
use Rattle.lisp_database.proofs.Keys.{alike}
use Rattle.lisp_database.proofs.Loading.{one_row, sound}
use Rattle.lisp_database.proofs.Picking.{picked}

abbrev pub query : Query
query = record {
  from = inner 0 end;
  filter = [];
  group = None;
  project = col 1 1 ∷ col 1 2 ∷ col 1 3 ∷ col 1 4 ∷ col 1 5 ∷ [];
  distinct = false;
  collations = [];
  order = [];
  limit = lit (Int (negsuc 0));
  offset = lit (Int (pos 0));
}

unlisted : reads_listing nonces_schema load_all_text ≡ false
unfolding understood everything
unlisted = refl

is_select : command_of (understood nonces_schema load_all_text)
    ≡ Select (record { lets = []; body = query }) (codes "kind" ∷ codes "site_id" ∷ codes "xtr_id" ∷ codes "key_id" ∷ codes "nonce" ∷ [])
unfolding understood everything
is_select = refl

plain : IsPlain (understood nonces_schema load_all_text)
unfolding understood everything
plain = (refl, refl)

-- the columns that it shows of a row of the table
abbrev shown : Row → Row
shown r = column r 1 ∷ column r 2 ∷ column r 3 ∷ column r 4 ∷ column r 5 ∷ []

module _ (db : Trees) (answer : List Row) (a : IsAnswer query db [] answer) where
  abbrev env : Row → Env
  env r = [] ∷ r ∷ []

  from_row : (row : Row) → Has answer row → (r : Row) × Has (db 0) r × (row ≡ shown r)
  from_row row h =
      let kept = a.distinct ∙ ap (map (output query)) (a.grouped ∙ picked (λ _. true) env (db 0)) in
      let one = is_of_one query env (filter (λ _. true) (db 0)) answer a.kept a.ordered kept a.same a.shown row h in
      (one.0, (has_filtered (λ _. true) (db 0) one.0 one.1).0, one.2)

equal_to : (v w : Value) → v ≡ w → is_null w ≡ false → equal Binary v w ≡ true
equal_to v w same some = subst (λ x. equal Binary x w ≡ true) (sym same) (alike w some)

-- a row whose columns name a pair is that of the pair
its_row : (r : Row) (pair : Pair) → TellsPair (shown r) pair → is_row_of pair r ≡ true
unfolding first_key
its_row r pair tells =
    and_from _ _ (equal_to _ _ tells.xtr refl) (and_from _ _ (equal_to _ _ tells.site refl) (and_from _ _ (equal_to _ _ tells.key refl) (and_from _ _ (equal_to _ _ tells.kind refl) refl)))

keeps_told : (db : Database) (has : IsOfNonces db) (is : IsDatabase db) (r : Row) (kept : KeptNonce) → Has (db.trees 0) r → TellsNonce (shown r) kept → Keeps db.trees kept.pair (Some kept.nonce)
keeps_told db has is r kept there tells =
    let its = has_kept (is_row_of kept.pair) (db.trees 0) r there (its_row r kept.pair tells.pair) in
    elim (one_row kept.pair db has is) [
      | inl none ↦ absurd (subst (λ rows. Has rows r) none its)
      | inr one ↦ elim (subst (λ rows. Has rows r) one.1 its) [
        | inl same ↦ ap (map (λ r. column r 5)) one.1 ∙ ap (λ v. v ∷ []) (sym (ap (λ (r : Row). column r 5) same) ∙ tells.nonce)
        | inr later ↦ absurd later
      ]
    ]

-- ---- the clauses of the call

pub anyhow : {A E : Type 0} (r : Result A E) (P : Type 0) → P → OnOk r P
anyhow (Ok a) P p = p
anyhow (Err e) P p = tt

pub unchanged : (old new : State) (rows : List Row) → HasTables old → Shown load_all_text [] old new rows → IsUnchanged old new
unfolding Shown
unchanged old new rows has h =
    let bare = (subst IsPlain (sym (sym h.1.is ∙ ap (λ s. understood s load_all_text) has)) plain).0 in
    (rw bare at h.2).3

pub each_kept : (old new : State) (rows : List Row) (nonces : List KeptNonce) → IsOfNonces old.now → IsLive old → Shown load_all_text [] old new rows → All (IsTold rows) nonces
    → All (λ kept. Keeps old.now.trees kept.pair (Some kept.nonce)) nonces
each_kept old new rows nonces has alive found told i d low =
    let kept : KeptNonce = get_or nonces i d in
    let is = sound old new (unchanged old new rows has.tables found) alive in
    let read = reads_as load_all_text [] old new nonces_schema has.tables _ is_select plain unlisted rows found in
    let it = any_has (λ row. TellsNonce row kept) rows (told i d low) in
    let from = from_row (overlay old.now.trees []) rows (read.answer Null) it.0 it.1 in
    keeps_told old.now has is from.0 kept from.1 (subst (λ row. TellsNonce row kept) from.2 it.2)

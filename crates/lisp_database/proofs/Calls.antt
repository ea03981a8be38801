-- What a save makes of a connection.
use Rattle.std.proofs.Common.{◌≡◌, inl, inr, ℕ, false, IsTrue, None, Result, Ok, Err, sym, ap, subst, ◌∙◌, append-nil}
use Rattle.std.specs.Prelude.{OnOk, OnErr}
use Rattle.sqlite.specs.declared.error.Error.{Error}
use Rattle.sqlite.specs.Tree.{Trees}
use Rattle.sqlite_trees.specs.View.{IsShaped}
use Rattle.sqlite_trees.specs.declared.store.Shape.TheVariants.{Table}
use Rattle.sqlite.specs.Effect.{Database}
use Rattle.sqlite.specs.Listing.{understood}
use Rattle.sqlite.specs.State.{State, mode_of, Writes, Executes, ExecutesIn, IsNotRun, CommitsBy, MayCommit, Survives, text_of, shows_rows}
use Rattle.sqlite.specs.Order.{Row}
use Rattle.std.proofs.lemmas.Bool.{cases_Bool}
use Rattle.sqlite.proofs.StateLemmas.{survives_weaker}
use Rattle.sqlite.proofs.Callers.{IsPlain, command_of, statement_of, runs_as}
use Rattle.lisp_nonces.specs.declared.pair.Pair.{Pair}
use Rattle.lisp_store.specs.PairName.{IsPair}
use Rattle.lisp_database.specs.Columns.{row_of}
use Rattle.lisp_database.specs.Schema.{nonces_schema}
use Rattle.lisp_database.specs.Table.{save_text, Saves, CommitsNonce}
use Rattle.lisp_database.specs.Kept.{IsOfNonces, IsSaved, SavesNonce, CommitsSave, LeavesAll}
use Rattle.lisp_database.proofs.Meaning.{save_is, save_plain}
use Rattle.lisp_database.proofs.Saving.{command, saved}

-- what holds anyhow holds on either side
pub if_failed : {A E : Type 0} (r : Result A E) (P : Type 0) → P → OnErr r P
if_failed (Ok a) P p = tt
if_failed (Err e) P p = p

pub if_done : {A E : Type 0} (r : Result A E) (P Q : Type 0) → (P → Q) → OnOk r P → OnOk r Q
if_done (Ok a) P Q f p = f p
if_done (Err e) P Q f p = tt

-- a statement that failed left all as before, or as the last commit left it
pub left_by_error : (sql : _) (params : Row) (old new : State) (e : Error) → Executes sql params old new (Err e) → LeavesAll old new
unfolding ExecutesIn IsNotRun
left_by_error sql params old new e (inl (inl h)) = inl h.1
left_by_error sql params old new e (inl (inr h)) = inr h.3
left_by_error sql params old new e (inr h) = elim (cases_Bool (shows_rows false h.0)) [
  | inl shows ↦ inl (rw shows at h.2).1
  | inr runs ↦ elim (rw runs at h.2) [ inl refused ↦ inl refused.1 | inr fails ↦ inr fails.3 ]
]

module _ (old new : State) (pair : Pair) (nonce : ℕ) (has : IsOfNonces old.now) (is : IsPair pair) where
  writes : (count : ℕ) → Executes save_text (row_of pair nonce) old new (Ok count) → Writes old new None command (statement_of save_text (understood nonces_schema save_text)) (row_of pair nonce) count
  writes count h = runs_as save_text (row_of pair nonce) old new nonces_schema has.tables command save_is save_plain count h

  pub saves : (count : ℕ) → Executes save_text (row_of pair nonce) old new (Ok count) → IsOfNonces new.now × IsSaved old.now.trees new.now.trees pair nonce
  saves count h = let w = writes count h in saved old.step_limit (mode_of old) pair nonce old.now new.now (statement_of save_text (understood nonces_schema save_text)) w.tally has is w.changed

-- what a crash may leave of it
pub may_commit : (old : State) (pair : Pair) (nonce : ℕ) (db : Trees) → IsOfNonces old.now → IsPair pair → CommitsNonce old pair nonce db → CommitsSave old pair nonce db
unfolding CommitsBy
may_commit old pair nonce db has is h =
    let known = sym h.1.is ∙ ap (λ s. understood s save_text) has.tables in
    let bare = subst IsPlain (sym known) save_plain in
    let named = ap command_of known ∙ save_is in
    let ran : MayCommit old None command (text_of save_text h.0) (row_of pair nonce) db = rw (bare.0, bare.1, append-nil (row_of pair nonce), named) at h.2 in
    elim ran [
      | inl other ↦ elim other.0 [ inl commit ↦ absurd (let e = commit in cc) | inr release ↦ absurd (let e = release.2 in cc) ]
      | inr wrote ↦
          let made = saved old.step_limit (mode_of old) pair nonce old.now wrote.2 (text_of save_text h.0) wrote.1 has is wrote.3 in
          record { outside = wrote.0; rows = subst (λ (t : Trees). IsShaped Table (t 0)) (sym wrote.5) made.0.rows; saved = subst (λ (t : Trees). IsSaved old.now.trees t pair nonce) (sym wrote.5) made.1 }
    ]

-- while a connection is open, a crash leaves what is committed
pub kept : (old new : State) (pair : Pair) (nonce : ℕ) (r : Result ℕ Error) → ((db : Trees) → IsTrue new.is_open → new.may_leave db → db ≡ new.committed.trees) → IsOfNonces old.now → IsPair pair → Saves old new pair nonce r
    → OnOk r (SavesNonce old new pair nonce)
kept old new pair nonce (Err e) settled has is h = tt
kept old new pair nonce (Ok count) settled has is h =
    let now = saves old new pair nonce has is count h in
    let w = writes old new pair nonce has is count h in
    let committed : old.in_transaction ≡ false → new.committed ≡ new.now = λ outside. rw outside at w.shown.committed_is in
    record {
      table = now.0;
      saved = now.1;
      mode = w.shown.mode;
      committed = committed;
      durable = λ outside db may. settled db w.shown.is_open may ∙ ap (λ (d : Database). d.trees) (committed outside);
      waits = λ inside. rw inside at w.shown.committed_is;
    }

pub failed : (old new : State) (pair : Pair) (nonce : ℕ) (r : Result ℕ Error) → Saves old new pair nonce r → OnErr r (LeavesAll old new)
failed old new pair nonce (Ok count) h = tt
failed old new pair nonce (Err e) h = left_by_error save_text (row_of pair nonce) old new e h

pub crash : (old new : State) (pair : Pair) (nonce : ℕ) → IsPair pair → Survives old new (CommitsNonce old pair nonce) → Survives old new (λ db. IsOfNonces old.now → CommitsSave old pair nonce db)
crash old new pair nonce is = survives_weaker old new (CommitsNonce old pair nonce) (λ db. IsOfNonces old.now → CommitsSave old pair nonce db) (λ _ db commits has. may_commit old pair nonce db has is commits)

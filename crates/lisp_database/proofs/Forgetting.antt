-- What forgetting a nonce makes of a connection.
use Rattle.std.proofs.Common.{◌≡◌, inl, inr, ℕ, false, IsTrue, None, Result, Ok, Err, sym, ap, subst, ◌∙◌, append-nil}
use Rattle.std.specs.Prelude.{OnOk, OnErr}
use Rattle.sqlite.specs.declared.error.Error.{Error}
use Rattle.sqlite.specs.Tree.{Trees}
use Rattle.sqlite_trees.specs.View.{IsShaped}
use Rattle.sqlite_trees.specs.declared.store.Shape.TheVariants.{Table}
use Rattle.sqlite.specs.Effect.{Database}
use Rattle.sqlite.specs.Listing.{understood}
use Rattle.sqlite.specs.State.{State, mode_of, Writes, CommitsBy, MayCommit, Survives, text_of}
use Rattle.sqlite.proofs.StateLemmas.{survives_weaker}
use Rattle.sqlite.proofs.Callers.{IsPlain, command_of, statement_of, runs_as}
use Rattle.lisp_nonces.specs.declared.pair.Pair.{Pair}
use Rattle.lisp_store.specs.PairName.{IsPair}
use Rattle.lisp_database.specs.Columns.{key_of}
use Rattle.lisp_database.specs.Schema.{nonces_schema}
use Rattle.lisp_database.specs.Table.{forget_text, Forgets, CommitsForget}
use Rattle.lisp_database.specs.Kept.{IsOfNonces, IsForgotten, ForgetsNonce, CommitsForgetting, LeavesAll}
use Rattle.lisp_database.proofs.Calls.{left_by_error}
use Rattle.lisp_database.proofs.Deleting.{command, forget_is, forget_plain, forgotten}

-- what a crash may leave of it
may_commit : (old : State) (pair : Pair) (db : Trees) → IsOfNonces old.now → IsPair pair → CommitsForget old pair db → CommitsForgetting old pair db
unfolding CommitsBy
may_commit old pair db has is h =
    let known = sym h.1.is ∙ ap (λ s. understood s forget_text) has.tables in
    let bare = subst IsPlain (sym known) forget_plain in
    let named = ap command_of known ∙ forget_is in
    let ran : MayCommit old None command (text_of forget_text h.0) (key_of pair) db = rw (bare.0, bare.1, append-nil (key_of pair), named) at h.2 in
    elim ran [
      | inl other ↦ elim other.0 [ inl commit ↦ absurd (let e = commit in cc) | inr release ↦ absurd (let e = release.2 in cc) ]
      | inr wrote ↦
          let made = forgotten old.step_limit (mode_of old) pair old.now wrote.2 (text_of forget_text h.0) wrote.1 has is wrote.3 in
          record { outside = wrote.0; rows = subst (λ (t : Trees). IsShaped Table (t 0)) (sym wrote.5) made.0.rows; forgotten = subst (λ (t : Trees). IsForgotten old.now.trees t pair) (sym wrote.5) made.1 }
    ]

-- while a connection is open, a crash leaves what is committed
pub kept : (old new : State) (pair : Pair) (r : Result ℕ Error) → ((db : Trees) → IsTrue new.is_open → new.may_leave db → db ≡ new.committed.trees) → IsOfNonces old.now → IsPair pair → Forgets old new pair r
    → OnOk r (ForgetsNonce old new pair)
kept old new pair (Err e) settled has is h = tt
kept old new pair (Ok count) settled has is h =
    let w : Writes old new None command (statement_of forget_text (understood nonces_schema forget_text)) (key_of pair) count = runs_as forget_text (key_of pair) old new nonces_schema has.tables command forget_is forget_plain count h in
    let made = forgotten old.step_limit (mode_of old) pair old.now new.now (statement_of forget_text (understood nonces_schema forget_text)) w.tally has is w.changed in
    let committed : old.in_transaction ≡ false → new.committed ≡ new.now = λ outside. rw outside at w.shown.committed_is in
    record {
      table = made.0;
      forgotten = made.1;
      mode = w.shown.mode;
      committed = committed;
      durable = λ outside db may. settled db w.shown.is_open may ∙ ap (λ (d : Database). d.trees) (committed outside);
      waits = λ inside. rw inside at w.shown.committed_is;
    }

pub failed : (old new : State) (pair : Pair) (r : Result ℕ Error) → Forgets old new pair r → OnErr r (LeavesAll old new)
failed old new pair (Ok count) h = tt
failed old new pair (Err e) h = left_by_error forget_text (key_of pair) old new e h

pub crash : (old new : State) (pair : Pair) → IsPair pair → Survives old new (CommitsForget old pair) → Survives old new (λ db. IsOfNonces old.now → CommitsForgetting old pair db)
crash old new pair is = survives_weaker old new (CommitsForget old pair) (λ db. IsOfNonces old.now → CommitsForgetting old pair db) (λ _ db commits has. may_commit old pair db has is commits)

-- What keeping the greatest of two nonces makes of a connection.
use Rattle.std.proofs.Common.{◌≡◌, inl, inr, ℕ, Option, Some, sym, subst, ◌∙◌}
use Rattle.sqlite.specs.Tree.{Trees}
use Rattle.sqlite.specs.Effect.{Database}
use Rattle.sqlite.specs.State.{State, HasCleanDisk, IsUnchanged, Survives}
use Rattle.sqlite.proofs.StateLemmas.{survives_then, survives_weaker}
use Rattle.sqlite.proofs.Callers.{unchanged_then}
use Rattle.lisp_nonces.specs.declared.pair.Pair.{Pair}
use Rattle.lisp_database.specs.Kept.{HasTables, IsOfNonces, Keeps, IsSaved, SavesNonce, CommitsSave, LeavesAll, KeepsGreatest, greatest}

-- a call that changes nothing comes before
pub leaves_after : (old mid new : State) → IsUnchanged old mid → LeavesAll mid new → LeavesAll old new
leaves_after old mid new same (inl h) = inl (unchanged_then old mid new same h)
leaves_after old mid new same (inr h) = inr (record {
  was_open = λ is_open. same.0.was_open;
  undone = λ is_open. ((h.undone is_open).0 ∙ same.0.committed_is, (h.undone is_open).1 ∙ same.0.committed_is);
  autocommit = h.autocommit;
  unmarked = h.unmarked;
  counts = record { changes = h.counts.changes ∙ same.1.changes; last_rowid = h.counts.last_rowid ∙ same.1.last_rowid };
})

pub still_of_nonces : (old mid : State) → IsUnchanged old mid → IsOfNonces old.now → IsOfNonces mid.now
still_of_nonces old mid same has = subst IsOfNonces (sym same.0.now_is) has

pub rises : (old mid new : State) (pair : Pair) (nonce : ℕ) (before : Option ℕ) → IsUnchanged old mid → Keeps old.now.trees pair before → greatest before nonce ≡ nonce → SavesNonce mid new pair nonce → KeepsGreatest old new pair nonce
rises old mid new pair nonce before same was is saved =
    let it = subst (λ (d : Database). IsSaved d.trees new.now.trees pair nonce) same.0.now_is saved.saved in
    record {
      table = saved.table;
      before = before;
      was = was;
      kept = subst (λ n. Keeps new.now.trees pair (Some n)) (sym is) it.kept;
      others = it.others;
      writer = it.writer;
      mode = saved.mode ∙ same.0.mode;
    }

commits_same : (old mid : State) (pair : Pair) (nonce : ℕ) (db : Trees) → IsUnchanged old mid → CommitsSave mid pair nonce db → CommitsSave old pair nonce db
commits_same old mid pair nonce db same h = record { outside = sym same.0.mode ∙ h.outside; rows = h.rows; saved = subst (λ (d : Database). IsSaved d.trees db pair nonce) same.0.now_is h.saved }

pub crash : (old mid new : State) (pair : Pair) (nonce : ℕ) → (HasTables old → HasCleanDisk new → IsUnchanged old mid) → Survives old mid (λ _. ¬ (HasTables old)) → Survives mid new (λ db. IsOfNonces mid.now → CommitsSave mid pair nonce db)
    → Survives old new (λ db. IsOfNonces old.now → CommitsSave old pair nonce db)
crash old mid new pair nonce same = survives_then old mid new _ _ (λ db. IsOfNonces old.now → CommitsSave old pair nonce db) (λ _ db never has. absurd (never has.tables))
    (λ clean db commits has. let unchanged = same has.tables clean in commits_same old mid pair nonce db unchanged (commits (still_of_nonces old mid unchanged has)))

pub commits_nothing : (old new : State) (pair : Pair) (nonce : ℕ) → Survives old new (λ _. ¬ (HasTables old)) → Survives old new (λ db. IsOfNonces old.now → CommitsSave old pair nonce db)
commits_nothing old new pair nonce = survives_weaker old new _ _ (λ _ db never has. absurd (never has.tables))

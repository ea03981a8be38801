-- What BEGIN and COMMIT make of a connection.
use Rattle.std.proofs.Common.{◌≡◌, inl, inr, ℕ, List, [], None, Ok, IsTrue, refl, sym, ap, subst, ◌∙◌, append-nil}
use Rattle.sqlite.specs.Command.{Command}
use Rattle.sqlite.specs.Command.TheVariants.{Begin, Commit}
use Rattle.sqlite.specs.Tree.{Trees}
use Rattle.sqlite.specs.Effect.{Database}
use Rattle.sqlite_tied.specs.Compute.{everything}
use Rattle.sqlite.specs.Listing.{understood}
use Rattle.sqlite.specs.State.{State, Executes, CommitsBy, MayCommit, Survives, text_of}
use Rattle.sqlite.proofs.StateLemmas.{survives_weaker}
use Rattle.sqlite.proofs.Callers.{IsPlain, command_of, runs_as}
use Rattle.lisp_database.specs.Schema.{nonces_schema}
use Rattle.lisp_database.specs.Group.{begin_text, commit_text, BeginsGroup, CommitsGroup}
use Rattle.lisp_database.specs.Kept.{HasTables}

begin_is : command_of (understood nonces_schema begin_text) ≡ Begin
unfolding understood everything
begin_is = refl

begin_plain : IsPlain (understood nonces_schema begin_text)
unfolding understood everything
begin_plain = (refl, refl)

commit_is : command_of (understood nonces_schema commit_text) ≡ Commit
unfolding understood everything
commit_is = refl

commit_plain : IsPlain (understood nonces_schema commit_text)
unfolding understood everything
commit_plain = (refl, refl)

pub begins : (old new : State) (count : ℕ) → HasTables old → Executes begin_text [] old new (Ok count) → BeginsGroup old new
begins old new count has h =
    let ran = runs_as begin_text [] old new nonces_schema has Begin begin_is begin_plain count h in
    record { outside = ran.0; mode = ran.1.mode; now = ran.1.now_is; committed = ran.1.committed_is }

pub commits : (old new : State) (count : ℕ) → ((db : Trees) → IsTrue new.is_open → new.may_leave db → db ≡ new.committed.trees) → HasTables old → Executes commit_text [] old new (Ok count) → CommitsGroup old new
commits old new count settled has h =
    let ran = runs_as commit_text [] old new nonces_schema has Commit commit_is commit_plain count h in
    record {
      inside = ran.0;
      mode = ran.1.mode;
      now = ran.1.now_is;
      committed = ran.1.committed_is;
      durable = λ db may. settled db ran.1.is_open may ∙ ap (λ (d : Database). d.trees) ran.1.committed_is;
    }

-- what the statement may commit, by its command
may_commit : (sql : List ℕ) (command : Command) (old : State) (db : Trees) → HasTables old → command_of (understood nonces_schema sql) ≡ command → IsPlain (understood nonces_schema sql) → CommitsBy sql [] old db
    → (text : List ℕ) × MayCommit old None command text [] db
unfolding CommitsBy
may_commit sql command old db has is plain h =
    let known = sym h.1.is ∙ ap (λ s. understood s sql) has in
    let bare = subst IsPlain (sym known) plain in
    let named = ap command_of known ∙ is in
    (text_of sql h.0, rw (bare.0, bare.1, append-nil [], named) at h.2)

begin_commits : (old : State) (db : Trees) → HasTables old → CommitsBy begin_text [] old db → ⊥
begin_commits old db has h = elim (may_commit begin_text Begin old db has begin_is begin_plain h).1 [
  | inl other ↦ elim other.0 [ inl commit ↦ let e = commit in cc | inr release ↦ let e = release.2 in cc ]
  | inr wrote ↦ let e = wrote.3 in cc
]

commit_commits : (old : State) (db : Trees) → HasTables old → CommitsBy commit_text [] old db → db ≡ old.now.trees
commit_commits old db has h = elim (may_commit commit_text Commit old db has commit_is commit_plain h).1 [
  | inl all ↦ all.1
  | inr wrote ↦ absurd (let e = wrote.3 in cc)
]

pub begin_crash : (old new : State) → Survives old new (CommitsBy begin_text [] old) → Survives old new (λ _. ¬ (HasTables old))
begin_crash old new = survives_weaker old new _ _ (λ _ db commits has. begin_commits old db has commits)

pub commit_crash : (old new : State) → Survives old new (CommitsBy commit_text [] old) → Survives old new (λ db. HasTables old → db ≡ old.now.trees)
commit_crash old new = survives_weaker old new _ _ (λ _ db commits has. commit_commits old db has commits)

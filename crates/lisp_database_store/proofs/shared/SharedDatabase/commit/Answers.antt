use Rattle.std.proofs.Common.{Result, Ok, Err, OnOk, IsTrue, sym, subst, ◌∙◌}
use mathlib.Core.Bool.{true≢false}
use Rattle.std.specs.Result.{is_ok}
use Rattle.std.proofs.lemmas.Result.{on_ok_weaker}
use Rattle.lisp_database_store.specs.Groups.{IsDone}
use Rattle.lisp_database_store.specs.Groups.Asked.{it_did}
use Rattle.lisp_database_store.specs.declared.group.Groups.{Groups}
use Rattle.lisp_database_store.proofs.shared.SharedDatabase.commit.Goals.{in-Ok, in-Err}
use Rattle.lisp_database_store.proofs.shared.SharedDatabase.commit.Goals as goal

-- what is said of an answer that is done, where it is
of_ok : {V F : Type 0} (r : Result V F) (P : Type 0) → IsTrue (is_ok r) → OnOk r P → P
of_ok (Ok v) P done said = said
of_ok (Err e) P done said = absurd (true≢false (sym done))

pub returns : goal.returns
returns g c done =
    let some = of_ok c.match-try_borrow_mut.committed ((old new : Groups g.row.T.Denot) × IsDone g.T.Table.means old new) (sym c.is_ok.ensures.value ∙ done)
    (elim c.match-try_borrow_mut.branch [
      | in-Ok w ↦ subst (λ r. OnOk r ((old new : Groups g.row.T.Denot) × IsDone g.T.Table.means old new)) (sym w.committed-is)
          (on_ok_weaker w.commit-committed.result (λ is. (w.deref_mut.result.now, w.commit-committed.new.self, is)) w.commit-committed.ensures.done)
      | in-Err w ↦ subst (λ r. OnOk r ((old new : Groups g.row.T.Denot) × IsDone g.T.Table.means old new)) (sym w.committed-is) tt
    ]) in
    it_did g.T.Table.means some.0 some.1 some.2

use Rattle.std.proofs.Common.{true, sym, ◌∙◌}
use Rattle.lisp_turns.specs.Group.{has_acts}
use Rattle.lisp_turns.specs.Stretch.{Asks}
use Rattle.lisp_turns.proofs.Asking.{asks_one, asks_none}
use Rattle.lisp_turns.proofs.Grouping.{loses, takes_in, to_commit}
use Rattle.lisp_turns.proofs.turn.take_in.Goals as goal
use Rattle.lisp_turns.proofs.turn.take_in.Goals.{else-has_acts-via-then-has_acts+else-not-commit, else-has_acts-via-else-has_acts}

pub returns-then-not-commit-clause-takes : goal.returns-then-not-commit-clause-takes
returns-then-not-commit-clause-takes g c =
    loses _ _ _ _ _ _ _ _ _ _ _ _ _ _ _ c.take-intake.ensures.takes _ _ _ (sym c.has_acts.ensures ∙ c.if-has_acts.true) (rw c.if-not-commit.true at c.commit.ensures)

pub returns-clause-takes : goal.returns-clause-takes
returns-clause-takes g c =
    takes_in _ _ _ _ _ _ _ _ _ _ _ _ _ _ _ c.take-intake.ensures.takes _ _ _ _ _ _ _ committed (c.tell_failure.ensures.pause c.args.buffer.now) (c.tell_failure.ensures.told c.args.buffer.now) c.tell.ensures
    (rw (c.core.ensures, c.answer.ensures) at c.answer-2.ensures)
  where
    committed : Asks (g.O.Outside.seen c.take-intake.new.outside) (g.O.Outside.seen c.else-has_acts.outside) (to_commit (has_acts c.take-intake.result.heard c.take-intake.result.outcome) true)
    committed = elim c.else-has_acts.branch [
      | else-has_acts-via-then-has_acts+else-not-commit w ↦ rw (w.outside-is, sym c.has_acts.ensures ∙ w.if-has_acts.true) (asks_one _ _ _ (rw w.if-not-commit.false at w.commit.ensures))
      | else-has_acts-via-else-has_acts w ↦ rw (w.outside-is, sym c.has_acts.ensures ∙ w.if-has_acts.false) (asks_none _)
    ]

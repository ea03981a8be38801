use Rattle.lisp_turns.proofs.Grouping.{hears_group}
use Rattle.lisp_turns.proofs.group.hear_group.Goals as goal

pub returns-clause-hears : goal.returns-clause-hears
returns-clause-hears g c =
    rw c.in-Datagram.is (hears_group _ _ _ _ _ _ _ _ _ _ _ _ _ _ c.hear-first.ensures.does c.hear-first.ensures.from c.hear_others-others.ensures.hears)

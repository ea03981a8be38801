use Rattle.std.proofs.Common.{inl, inr}
use Rattle.lisp_turns.proofs.Answering.{told_all}
use Rattle.lisp_turns.proofs.requests.tell_outcomes.Goals as goal

pub returns : goal.returns
returns g c = told_all c.loop-eid.invariant (elim c.in-None.ensures.steps [
  | inl w ↦ inl w.1.0
  | inr w ↦ inr w.1.0
])

use Rattle.lisp_turns.proofs.Asking.{asks_one}
use Rattle.lisp_turns.proofs.intake.Intake.take.Goals as goal

pub returns-clause-takes : goal.returns-clause-takes
returns-clause-takes g c = record {
  between = g.N.Node.state c.hear_group-first.new.node;
  listening = g.O.Outside.seen c.hear_group-first.new.outside;
  hears = c.hear_group-first.ensures.hears;
  order = c.listen-order.result;
  obeys = c.obey-outcome.ensures.obeys;
  asked = asks_one _ _ _ c.listen-order.ensures;
}

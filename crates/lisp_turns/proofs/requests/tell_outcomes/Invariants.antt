use Rattle.lisp_turns.proofs.Answering.{Told}
use Rattle.lisp_turns.proofs.requests.tell_outcomes.Given as goal

abbrev pub invariant-loop-eid : goal.invariant-loop-eid
invariant-loop-eid g l = Told l.to l.eids l.outcomes l.eid-iterator.a.rest.now l.eid-iterator.b.rest.now (g.O.Outside.seen l.fn.outside) (g.O.Outside.seen l.outside)

use Rattle.std.proofs.Common.{◌≡◌}
use Rattle.lisp_turns.specs.Stretch.{HasAnswered}
use Rattle.lisp_turns.proofs.requests.Resolving.answer_waiting.Given as goal

abbrev pub invariant-loop : goal.invariant-loop
invariant-loop g l = record {
  answered : HasAnswered l.place.config.now l.place.number l.counter (g.N.Node.state l.node) l.fn.self.quiet l.now l.fn.self.budget l.self.budget (g.O.Outside.seen l.fn.outside) (g.O.Outside.seen l.outside);
  quiet : l.self.quiet ≡ l.fn.self.quiet;
}

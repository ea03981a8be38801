use Rattle.lisp_turns.specs.Node.{IsPlaced}
use Rattle.lisp_turns.proofs.Grouping.{HeardSome}
use Rattle.lisp_turns.proofs.group.hear_others.Given as goal

abbrev pub invariant-loop : goal.invariant-loop
invariant-loop g l = record {
  placed : IsPlaced l.place.config.now l.place.number (g.N.Node.state l.node);
  heard : HeardSome Rattle.std.proofs.Common.Global l.place.config.now l.place.number l.places (g.N.Node.state l.fn.node) (g.N.Node.state l.node) l.now l.counter l.others.items (g.O.Outside.seen l.fn.outside) (g.O.Outside.seen l.outside);
}

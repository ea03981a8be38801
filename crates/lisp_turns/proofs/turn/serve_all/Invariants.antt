use Rattle.std.proofs.Common.{◌≡◌}
use Rattle.lisp_turns.specs.Node.{IsPlaced}
use Rattle.lisp_turns.specs.Stretch.{HasServed}
use Rattle.lisp_turns.proofs.turn.serve_all.Given as goal

abbrev pub invariant-loop : goal.invariant-loop
invariant-loop g l = record {
  placed : IsPlaced l.station.place.config.now l.station.place.number (g.N.Node.state l.node);
  served : HasServed Rattle.std.proofs.Common.Global l.station.place.config.now l.station.place.number (g.N.Node.state l.fn.node) (g.N.Node.state l.node) l.now l.counter (g.O.Outside.seen l.fn.outside) (g.O.Outside.seen l.outside);
  same : l.station ≡ l.fn.station;
}

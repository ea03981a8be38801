use Rattle.std.proofs.Common.{◌≡◌}
use Rattle.lisp_turns.specs.Node.{IsPlaced}
use Rattle.lisp_turns.specs.Pause.{no_pause}
use Rattle.lisp_turns.specs.Turn.{UncutTurns, IsUncut}
use Rattle.lisp_turns.specs.Stretch.{at_station}
use Rattle.lisp_turns.proofs.turn.take_turns.Given as goal

abbrev pub invariant-loop-number : goal.invariant-loop-number
invariant-loop-number g l = record {
  placed : IsPlaced l.station.place.config.now l.station.place.number (g.N.Node.state l.node);
  place : l.station.place ≡ l.place;
  places : l.station.places ≡ l.places;
  took : UncutTurns Rattle.std.proofs.Common.Global l.station.place.config.now l.station.place.number l.station.places l.number (record { node = g.N.Node.state l.fn.node; receives = no_pause; sends = no_pause; resolving = l.fn.resolving; outside = g.O.Outside.seen l.fn.outside }) (at_station (g.N.Node.state l.node) l.station (g.O.Outside.seen l.outside));
  uncut : IsUncut l.number (at_station (g.N.Node.state l.node) l.station (g.O.Outside.seen l.outside));
}

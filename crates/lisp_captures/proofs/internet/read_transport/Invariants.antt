use Rattle.std.proofs.Common.{◌≡◌, ◌-◌}
use Rattle.lisp_captures.specs.Internet.{transport_in}
use Rattle.lisp_captures.proofs.internet.read_transport.Given as goal

-- what stands after the headers still to pass is what was to be read
abbrev pub invariant-loop : goal.invariant-loop
invariant-loop l = transport_in (8 - l.counter) l.next l.rest ≡ transport_in 8 l.first l.payload

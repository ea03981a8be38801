use Rattle.std.proofs.Common.{◌-◌, ◌≤◌, length, drop}
use Rattle.lisp_udp.specs.Objects.{WritesObjects}
use Rattle.lisp_udp.proofs.object_output.ObjectOutputSink.take.Given as goal

abbrev pub invariant-loop-taken : goal.invariant-loop-taken
invariant-loop-taken g l = (l.taken ≤ length l.bytes) × WritesObjects (g.S.Sink.taken l.fn.self.sink) (g.S.Sink.taken l.self.sink) l.fn.self.rest.items l.self.rest.items l.bytes (drop l.taken l.bytes)

abbrev pub decreases-loop-taken : goal.decreases-loop-taken
decreases-loop-taken g l = length l.bytes - l.taken

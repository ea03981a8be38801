use Rattle.std.proofs.Common.{length, ◌-◌, ◌≤◌}
use Rattle.lisp_udp.proofs.standard_output.StandardOutputSink.take.Given as goal

-- it took no more than there is
abbrev pub invariant-loop-taken : goal.invariant-loop-taken
invariant-loop-taken l = l.taken ≤ length l.bytes

abbrev pub decreases-loop-taken : goal.decreases-loop-taken
decreases-loop-taken l = length l.bytes - l.taken

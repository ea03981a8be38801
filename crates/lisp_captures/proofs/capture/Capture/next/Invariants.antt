use Rattle.std.proofs.Common.{◌≡◌, length}
use Rattle.lisp_captures.specs.Capture.{packets_of}
use Rattle.lisp_captures.proofs.capture.Capture.next.Given as goal

-- the packets to come are those that were to come
abbrev pub invariant-loop-self : goal.invariant-loop-self
invariant-loop-self g l = packets_of l.self ≡ packets_of l.fn.self

-- each step takes a byte at least
abbrev pub decreases-loop-self : goal.decreases-loop-self
decreases-loop-self g l = length l.self.rest

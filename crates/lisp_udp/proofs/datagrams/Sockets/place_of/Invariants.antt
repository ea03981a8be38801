use Rattle.lisp_udp.proofs.Places.{NoneBefore}
use Rattle.lisp_udp.proofs.datagrams.Sockets.place_of.Given as goal

-- no node before it has the address
abbrev pub invariant-loop-at : goal.invariant-loop-at
invariant-loop-at g l = NoneBefore l.fn.self.sockets.items l.address l.at

use Rattle.lisp_udp.proofs.Bound.{SocketsSoFar}
use Rattle.lisp_udp.proofs.datagrams.Sockets+NodeSocket.bind.Given as goal

-- those of the nodes before it
abbrev pub invariant-loop-number : goal.invariant-loop-number
invariant-loop-number g l = SocketsSoFar l.config l.sockets.sockets.items l.number

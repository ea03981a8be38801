use Rattle.lisp_udp.proofs.Sending.{SentSoFar}
use Rattle.lisp_udp.proofs.network.send_from.Given as goal

-- those before it were sent
abbrev pub invariant-loop-k : goal.invariant-loop-k
invariant-loop-k g l = SentSoFar l.fn.sockets.sockets.items l.sockets.sockets.items (g.W.Write.contents l.fn.writer) (g.W.Write.contents l.writer) l.world.bag l.first l.k

use Rattle.lisp_udp.proofs.Bound.{one_more}
use Rattle.lisp_udp.proofs.datagrams.Sockets+NodeSocket.bind.Goals as goal

pub loop-number-preserved : goal.loop-number-preserved
loop-number-preserved g c =
    rw c.in_ok-add.ensures.2 (one_more c.args.config.now c.loop-number.sockets.sockets.items c.loop-number.number c.in_ok-add.ensures.0 c.loop-number.invariant c.in_ok-add.ensures.1)

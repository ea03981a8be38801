use Rattle.std.proofs.Common.{rules, ◌≡◌, Some, None, slice_get}
use Rattle.lisp_udp.proofs.Sending.{sent_more, sent_none}
use Rattle.lisp_udp.proofs.network.send_from.Goals as goal
use Rattle.lisp_udp.proofs.network.send_from.Goals.{in-Some+in_ok-send, in_default}

pub loop-k-preserved : goal.loop-k-preserved
loop-k-preserved g c =
    elim c.match-datagram.branch [
      | in-Some+in_ok-send w ↦
          let at : slice_get c.args.world.now.bag c.loop-k.k ≡ Some w.in-Some.datagram.now = search rules in
          rw (w.sockets-is, w.writer-is) (sent_more c.args.sockets.now.sockets.items c.loop-k.sockets.sockets.items w.send.new.self.sockets.items (g.W.Write.contents c.args.writer.now) (g.W.Write.contents c.loop-k.writer) (g.W.Write.contents w.send.new.writer) c.args.world.now.bag c.args.first c.loop-k.k _ w.in_ok-send.ensures.told.0 c.loop-k.invariant at w.in_ok-send.ensures.told.1 w.in_ok-send.ensures.told.2)
      | in_default w ↦
          let none : slice_get c.args.world.now.bag c.loop-k.k ≡ None = search rules in
          rw (w.sockets-is, w.writer-is) (sent_none c.args.sockets.now.sockets.items c.loop-k.sockets.sockets.items (g.W.Write.contents c.args.writer.now) (g.W.Write.contents c.loop-k.writer) c.args.world.now.bag c.args.first c.loop-k.k c.loop-k.invariant none)
    ]

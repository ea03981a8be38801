use Rattle.std.proofs.Common.{refl}
use Rattle.lisp_nodes.proofs.server_node.ServerNode.receive.Goals as goal

pub returns-clause-receives : goal.returns-clause-receives
returns-clause-receives g c =
    rw (← c.self.view_is)
    (record {
      armed = g.S.NonceStore.seen c.arm.new.store;
      called = g.S.NonceStore.seen c.receive-answer.new.store;
      uses = record { arms = c.arm.ensures; proceeds = c.receive-answer.ensures.proceeds; disarms = c.arm-2.ensures };
      taken = c.receive-answer.ensures.taken;
      refused = c.receive-answer.ensures.refused;
      err = c.receive-answer.ensures.err;
      started = refl;
      head = c.receive-answer.ensures.head;
    })

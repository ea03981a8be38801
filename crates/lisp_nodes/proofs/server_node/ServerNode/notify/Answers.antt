use Rattle.std.proofs.Common.{refl}
use Rattle.lisp_nodes.proofs.NodeCalls.{err_is}
use Rattle.lisp_nodes.proofs.server_node.ServerNode.notify.Goals as goal

pub returns-in_err-to-clause-notifies : goal.returns-in_err-to-clause-notifies
returns-in_err-to-clause-notifies g c =
    rw (← c.self.view_is)
    (rw (err_is c.from_residual.result c.in_err-to.field-0.0 c.from_residual.ensures.1)
    (record {
      armed = g.S.NonceStore.seen c.arm.new.store;
      called = g.S.NonceStore.seen c.notify-answer.new.store;
      uses = record { arms = c.arm.ensures; proceeds = c.in_err-to.ensures.proceeds; disarms = c.arm-2.ensures };
      announces = tt;
      refused = c.in_err-to.ensures.refused;
      err = c.in_err-to.ensures.err;
      started = refl;
      one_each = c.in_err-to.ensures.one_each;
    }))

pub returns-clause-notifies : goal.returns-clause-notifies
returns-clause-notifies g c =
    rw (← c.self.view_is)
    (record {
      armed = g.S.NonceStore.seen c.arm.new.store;
      called = g.S.NonceStore.seen c.notify-answer.new.store;
      uses = record { arms = c.arm.ensures; proceeds = c.in_ok-to.ensures.proceeds; disarms = c.arm-2.ensures };
      announces = rw c.from_vec.ensures c.in_ok-to.ensures.announces;
      refused = tt;
      err = tt;
      started = refl;
      one_each = c.in_ok-to.ensures.one_each;
    })

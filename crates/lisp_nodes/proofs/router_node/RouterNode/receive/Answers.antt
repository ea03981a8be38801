use Rattle.std.proofs.Common.{ap, refl}
use Rattle.lisp_nodes.{specs.Cores.core_of, proofs.NodeCalls.unused}
use Rattle.lisp_nodes.proofs.router_node.RouterNode.receive.Goals as goal

pub returns-clause-up : goal.returns-clause-up
returns-clause-up g c =
    rw (← c.self.view_is)
    (record {
      etr = c.in-Up.etr;
      was = ap core_of c.in-Up.is;
      left = c.receive-answer.new.self;
      is = refl;
      armed = g.S.NonceStore.seen c.arm.new.store;
      uses = record { arms = c.arm.ensures; proceeds = unused _; disarms = c.arm-2.ensures };
      call = record {
        gives = c.receive-answer.ensures.answer;
        after = c.receive-answer.ensures.after;
        fits = c.receive-answer.ensures.fits;
        grows = c.receive-answer.ensures.grows;
      };
    })

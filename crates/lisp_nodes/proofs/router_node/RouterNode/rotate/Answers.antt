use Rattle.std.proofs.Common.{ap, refl}
use Rattle.lisp_nodes.{specs.Cores.core_of, proofs.NodeCalls.why_not_rotated}
use Rattle.lisp_nodes.proofs.router_node.RouterNode.rotate.Goals as goal

pub returns-in-Ok-clause-up : goal.returns-in-Ok-clause-up
returns-in-Ok-clause-up g c =
    rw (← c.self.view_is)
    (record {
      etr = c.in-Up.etr;
      was = ap core_of c.in-Up.is;
      left = c.rotate-answer.new.self;
      is = refl;
      used = c.add.ensures;
      call = record {
        armed = g.S.NonceStore.seen c.arm.new.store;
        called = g.S.NonceStore.seen c.rotate-answer.new.store;
        uses = record { arms = c.arm.ensures; proceeds = c.rotate-answer.ensures.proceeds; disarms = c.arm-2.ensures };
        call = record {
          other = λ same. absurd (let clash = c.in-Ok.ensures.same_key.1 same in cc);
          rotates = c.in-Ok.ensures.rotated;
          last = c.in-Ok.ensures.last;
          loads = c.in-Ok.ensures.loads;
        };
        same = c.rotate-answer.ensures.same;
      };
    })

pub returns-in-Err-clause-up : goal.returns-in-Err-clause-up
returns-in-Err-clause-up g c =
    let e = c.in-Err.ensures in
    rw (← c.self.view_is)
    (record {
      etr = c.in-Up.etr;
      was = ap core_of c.in-Up.is;
      left = c.rotate-answer.new.self;
      is = refl;
      used = refl;
      call = record {
        armed = g.S.NonceStore.seen c.arm.new.store;
        called = g.S.NonceStore.seen c.rotate-answer.new.store;
        uses = record { arms = c.arm.ensures; proceeds = c.rotate-answer.ensures.proceeds; disarms = c.arm-2.ensures };
        call = (e.err, why_not_rotated c.in-Up.etr c.args.key_id c.args.key _ _ c.in-Err.refused.fault c.in-Err.refused.key e.back e.same_key e.unasked e.load_fails e.cause);
        same = c.rotate-answer.ensures.same;
      };
    })

use Rattle.std.proofs.Common.{sym}
use Rattle.lisp_nodes.proofs.NodeCalls.{hears_at, router_tells}
use Rattle.lisp_nodes.proofs.arrival.router_hears.Goals as goal

pub returns-clause-hears : goal.returns-clause-hears
returns-clause-hears g c = λ w next.
    hears_at w c.args.node c.args.router.now c.receive.new.self c.args.how.fate c.args.how.from c.args.bytes.now c.in-Some.answer c.in-Some.ensures.up _ _ _ _ _
    c.router_line.ensures next c.registers_with-key.ensures.servers c.registers_with-key.ensures.key (sym (c.router_reply.ensures _ _))

pub returns-clause-tells : goal.returns-clause-tells
returns-clause-tells g c = router_tells _ _ _ _ _ _ _ c.in-Some.answer c.router_line.ensures c.in-Some.ensures.memory

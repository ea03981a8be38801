use Rattle.lisp_nodes.proofs.NodeCalls.{server_tells}
use Rattle.lisp_nodes.proofs.arrival.server_hears.Goals as goal

pub returns-clause-hears : goal.returns-clause-hears
returns-clause-hears g c = (c.receive-answer.result, c.receive-answer.ensures.receives, c.server_line.ensures, c.server_reply.ensures)

pub returns-clause-tells : goal.returns-clause-tells
returns-clause-tells g c =
    let e = c.receive-answer.ensures in
    server_tells _ _ _ _ _ c.receive-answer.result c.server_line.ensures e.memory e.load_memory e.save_memory

use Rattle.lisp_udp.proofs.life.run_at.Goals as goal

pub returns-clause-part : goal.returns-clause-part
returns-clause-part g c = λ sites store begins network. rw c.in_ok-outside.was (λ may. c.take_turns-ended.ensures.part network sites store may (rw (c.in_ok-node.was, c.in_ok-outside.was) at begins))

pub returns-clause-turns : goal.returns-clause-turns
returns-clause-turns g c = λ sites store begins.
    let begun = rw (c.in_ok-node.was, c.in_ok-outside.was) at begins in
    rw c.in_ok-outside.was (g.N.Node.state c.in_ok-node.node, begun, rw c.in_ok-resolving.ensures.first at c.take_turns-ended.ensures.turns)

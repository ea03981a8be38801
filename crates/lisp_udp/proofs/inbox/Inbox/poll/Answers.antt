use Rattle.lisp_udp.proofs.inbox.Inbox.poll.Goals as goal

pub returns-in-Some-clause-takes : goal.returns-in-Some-clause-takes
returns-in-Some-clause-takes c = (c.in-Some.field-0.port, rw c.in-Some.is at c.next_into.ensures.next)

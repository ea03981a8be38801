use Rattle.lisp_udp.proofs.Growing.{grows_more, takes_grown}
use Rattle.lisp_udp.proofs.inbox.Inbox.wait.Goals as goal

pub returns-in-Ok-Some-clause-takes : goal.returns-in-Ok-Some-clause-takes
returns-in-Ok-Some-clause-takes c =
    let grows = grows_more c.args.self.now.heard c.offer.new.self.heard c.fill.new.self.heard c.offer.ensures.grows c.fill.ensures.grows in
    takes_grown c.args.self.now.heard c.fill.new.self.heard c.poll.new.self.heard c.poll.new.buffer c.poll.result grows c.poll.ensures.takes

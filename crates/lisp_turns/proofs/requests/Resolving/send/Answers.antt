use Rattle.std.proofs.Common.{sym, ◌∙◌}
use Rattle.lisp_turns.proofs.Answering.{held, sent, failed}
use Rattle.lisp_turns.proofs.requests.Resolving.send.Goals as goal
use Rattle.lisp_turns.proofs.requests.Resolving.send.Goals.{then-not-take, else-not-take+then-not-reply, else-not-take+else-not-reply}

pub returns-clause-passes : goal.returns-clause-passes
returns-clause-passes g c = elim c.if-not-take.branch [
  | then-not-take w ↦ rw (w.outside-is, sym c.self.view_is) (held {now = c.args.now} {from = c.args.from.now} {d = c.args.datagram.now} {old = c.self.inside.budget} {new = c.take.new.budget} {a = g.O.Outside.seen c.args.outside.now} (sym c.take.ensures.taken ∙ w.if-not-take.true) c.take.ensures.left w.print.ensures)
  | else-not-take+then-not-reply w ↦ rw (w.outside-is, sym c.self.view_is) (failed {now = c.args.now} {from = c.args.from.now} {d = c.args.datagram.now} {old = c.self.inside.budget} {new = c.take.new.budget} {a = g.O.Outside.seen c.args.outside.now} (sym c.take.ensures.taken ∙ w.if-not-take.false) c.take.ensures.left (rw w.if-not-reply.true at w.reply.ensures) w.print-then-not-reply.ensures)
  | else-not-take+else-not-reply w ↦ rw (w.outside-is, sym c.self.view_is) (sent {now = c.args.now} {from = c.args.from.now} {d = c.args.datagram.now} {old = c.self.inside.budget} {new = c.take.new.budget} {a = g.O.Outside.seen c.args.outside.now} (sym c.take.ensures.taken ∙ w.if-not-take.false) c.take.ensures.left (rw w.if-not-reply.false at w.reply.ensures))
]

use Rattle.std.proofs.Common.{sym, ◌∙◌}
use Rattle.lisp_replies.proofs.OwnHoleLaws.{least_is}
use Rattle.lisp_replies.proofs.own_hole.least_without.Goals as goal

pub returns-else-lies_in-clause-least : goal.returns-else-lies_in-clause-least
returns-else-lies_in-clause-least c = least_is c.args.other.now c.args.addr.now c.args.from c.loop-length.length c.loop-length.invariant.from c.loop-length.invariant.was (sym c.lies_in.ensures ∙ c.if-lies_in.false)

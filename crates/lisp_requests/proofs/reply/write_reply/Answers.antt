use Rattle.std.proofs.Common.{List, ℕ, sym, subst}
use Rattle.lisp_requests.specs.Reply.{SpellsReply}
use Rattle.lisp_requests.proofs.ReplyLaws.{reply_spelled}
use Rattle.lisp_requests.proofs.reply.write_reply.Goals as goal

pub returns-clause-spells : goal.returns-clause-spells
returns-clause-spells g c = subst (λ (bytes : List ℕ). SpellsReply bytes c.args.reply.now) (sym c.in_ok-put_reply.ensures.written) (reply_spelled c.args.reply.now c.in_ok-put_reply.ensures.known)

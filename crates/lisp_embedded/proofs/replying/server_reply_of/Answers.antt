use Rattle.std.proofs.Common.{false}
use Rattle.lisp_replies.specs.Reply.{IsReply}
use Rattle.lisp_mapping.specs.declared.replier.Replier.TheVariants.{MapServer}
use Rattle.lisp_embedded.proofs.Replies.{says}
use Rattle.lisp_embedded.proofs.replying.server_reply_of.Goals as goal

pub returns-clause-says : goal.returns-clause-says
returns-clause-says g c =
    says (IsReply c.args.server.now.rows c.args.server.now.sites c.args.asked.now c.args.starting c.args.now) MapServer false c.args.nonce c.in_ok-reply.reply c.spelled.result
    c.in_ok-reply.ensures.reply c.spelled.ensures.outcome c.spelled.ensures.bytes

use Rattle.lisp_replies.specs.Own.{IsOwnReply}
use Rattle.lisp_mapping.specs.declared.replier.Replier.TheVariants.{Router}
use Rattle.lisp_embedded.proofs.Replies.{says}
use Rattle.lisp_embedded.proofs.replying.router_reply_of.Goals as goal

pub returns-clause-says : goal.returns-clause-says
returns-clause-says g c =
    says (IsOwnReply c.args.router.now.database c.args.asked.now c.args.probed) Router c.args.probe c.args.nonce c.in_ok-reply.reply c.spelled.result
    c.in_ok-reply.ensures.reply c.spelled.ensures.outcome c.spelled.ensures.bytes

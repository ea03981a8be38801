use Rattle.std.proofs.Common.{arith}
use Rattle.lisp_requests.specs.Reply.{SpellsReply, reply_at}
use Rattle.lisp_requests.proofs.GivenLaws.{found, only}
use Rattle.lisp_requests.proofs.ReplyLaws.{reply_takes, reply_again}
use Rattle.lisp_requests.proofs.reply.read_reply.Goals as goal

pub returns-clause-found : goal.returns-clause-found
returns-clause-found g c =
    let bytes = c.args.bytes.now in
    found _ (SpellsReply bytes) c.read_whole.result (reply_at bytes) (λ m. reply_takes bytes m (λ i. omega (arith, c.type_inv.bytes i))) c.read_whole.ensures.exact

pub returns-clause-only : goal.returns-clause-only
returns-clause-only g c m spells =
    let bytes = c.args.bytes.now in
    only _ c.read_whole.result (reply_at bytes) m (reply_again bytes m spells) c.read_whole.ensures.exact

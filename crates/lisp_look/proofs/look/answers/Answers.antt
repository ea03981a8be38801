use Rattle.std.proofs.Common.{ap, sym, ◌∙◌, arith}
use Rattle.lisp_requests.specs.Reply.{SpellsReply, reply_at}
use Rattle.lisp_requests.proofs.ReplyLaws.{reply_takes, reply_again}
use Rattle.lisp_look.specs.Look.{LookValue}
use Rattle.lisp_look.proofs.Taken.{taken, is_taken}
use Rattle.lisp_look.proofs.look.answers.Goals as goal

pub returns-clause-spelled : goal.returns-clause-spelled
returns-clause-spelled g c =
    let bytes = c.args.bytes.now in
    taken (SpellsReply bytes) c.look.inside.nonce (reply_at bytes) c.answer_in.result (λ m. reply_takes bytes m (λ i. omega (arith, c.type_inv.bytes i))) c.answer_in.ensures.answers

pub returns-clause-only : goal.returns-clause-only
returns-clause-only g c m spells named =
    let bytes = c.args.bytes.now in
    is_taken c.look.inside.nonce (reply_at bytes) c.answer_in.result m (reply_again bytes m spells) (named ∙ sym (ap (λ (l : LookValue). l.nonce) c.look.view_is)) c.answer_in.ensures.answers

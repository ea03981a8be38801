use Rattle.lisp_requests.proofs.ReplyLaws.{one_reply}
use Rattle.lisp_requests.proofs.laws.one_reply.Goals as goal

pub returns : goal.returns
returns c = one_reply

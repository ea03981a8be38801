use Rattle.std.proofs.Common.{take}
use Rattle.lisp_replies.specs.Reply.{IsReply}
use Rattle.lisp_mapping.specs.Handling.{RepliesEach}
use Rattle.lisp_mapping.proofs.server.replies_at.Given as goal

-- what is said of the EID-Prefixes so far
abbrev pub invariant-loop-eid : goal.invariant-loop-eid
invariant-loop-eid g l = RepliesEach (λ eid reply. IsReply l.server.rows l.server.sites eid l.starting l.now reply) (take l.eid-index l.eids) l.replies.items

use Rattle.std.proofs.Common.{take}
use Rattle.lisp_replies.specs.Own.{IsOwnReply}
use Rattle.lisp_mapping.specs.Handling.{RepliesEach}
use Rattle.lisp_mapping.proofs.router.replies_by.Given as goal

-- what is said of the EID-Prefixes so far
abbrev pub invariant-loop-eid : goal.invariant-loop-eid
invariant-loop-eid g l = RepliesEach (λ eid reply. IsOwnReply l.router.database eid l.probed reply) (take l.eid-index l.eids) l.replies.items

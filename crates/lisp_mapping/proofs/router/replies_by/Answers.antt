use Rattle.lisp_replies.specs.Own.{IsOwnReply}
use Rattle.lisp_mapping.proofs.HandlingLaws.{all_said, next_said}
use Rattle.lisp_mapping.proofs.router.replies_by.Goals as goal

pub loop-eid-preserved : goal.loop-eid-preserved
loop-eid-preserved g c =
    next_said (λ eid reply. IsOwnReply c.args.router.now.database eid c.args.probed reply) c.args.eids.now c.loop-eid.eid-index c.eid-item.result c.loop-eid.replies.items c.try_push.new.self.items c.in_ok-reply_to.field-0
    c.loop-eid-test.true c.eid-item.is c.loop-eid.invariant c.in_ok-reply_to.ensures.reply c.in_ok-try_push.ensures.items

pub returns-clause-each : goal.returns-clause-each
returns-clause-each g c =
    all_said (λ eid reply. IsOwnReply c.args.router.now.database eid c.args.probed reply) c.args.eids.now c.loop-eid.eid-index c.loop-eid.replies.items c.loop-eid-test.false c.loop-eid.invariant

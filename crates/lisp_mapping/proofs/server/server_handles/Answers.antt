use Rattle.lisp_replies.specs.Reply.{IsReply}
use Rattle.lisp_mapping.specs.Asked.{encapsulated_asked}
use Rattle.lisp_mapping.specs.declared.replier.Replier.TheVariants.{MapServer}
use Rattle.lisp_mapping.proofs.HandlingLaws.{handles}
use Rattle.lisp_mapping.proofs.server.server_handles.Goals as goal

pub returns-in-Ok-clause-handles : goal.returns-in-Ok-clause-handles
returns-in-Ok-clause-handles g c =
    handles (λ _ eid reply. IsReply c.args.server.now.rows c.args.server.now.sites eid c.args.starting c.args.now reply) c.args.bytes.now (encapsulated_asked MapServer c.args.resolve.now c.args.own c.args.bytes.now) c.in_ok-asked.asked c.in-Ok.handled
    c.in_ok-asked.ensures.exact c.in-Ok.ensures.handled

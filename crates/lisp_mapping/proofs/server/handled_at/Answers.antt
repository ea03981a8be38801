use Rattle.std.proofs.Common.{List, ap, ◌∙◌, subst}
use Rattle.lisp_records.specs.Address.{PrefixValue}
use Rattle.lisp_replies.specs.Reply.{IsReply}
use Rattle.lisp_mapping.specs.Asked.{AskedValue}
use Rattle.lisp_mapping.specs.Handling.{RepliesEach}
use Rattle.lisp_mapping.proofs.HandlingLaws.{is_handled}
use Rattle.lisp_mapping.proofs.server.handled_at.Goals as goal

pub returns-clause-handled : goal.returns-clause-handled
returns-clause-handled g c =
    is_handled (λ eid reply. IsReply c.args.server.now.rows c.args.server.now.sites eid c.args.starting c.args.now reply) c.args.asked c.args.bytes.now c.in_ok-replies.replies.items c.handle.result
    c.handle.ensures.asked c.handle.ensures.outcomes c.handle.ensures.datagrams
    (subst (λ (eids : List PrefixValue). RepliesEach (λ eid reply. IsReply c.args.server.now.rows c.args.server.now.sites eid c.args.starting c.args.now reply) eids c.in_ok-replies.replies.items)
    (c.deref.ensures.value ∙ ap (λ (a : AskedValue). a.eids) c.asked.view_is) c.in_ok-replies.ensures.each)

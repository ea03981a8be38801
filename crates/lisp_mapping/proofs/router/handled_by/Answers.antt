use Rattle.std.proofs.Common.{List, Option, ap, ◌∙◌, subst}
use Rattle.lisp_records.specs.declared.address.Addr.{Addr}
use Rattle.lisp_records.specs.Address.{PrefixValue}
use Rattle.lisp_replies.specs.Own.{IsOwnReply}
use Rattle.lisp_mapping.specs.Asked.{AskedValue}
use Rattle.lisp_mapping.specs.Handling.{RepliesEach, probed}
use Rattle.lisp_mapping.proofs.HandlingLaws.{is_handled}
use Rattle.lisp_mapping.proofs.router.handled_by.Goals as goal

pub returns-clause-handled : goal.returns-clause-handled
returns-clause-handled g c =
    is_handled (λ eid reply. IsOwnReply c.args.router.now.database eid (probed c.args.asked c.args.own.now) reply) c.args.asked c.args.bytes.now c.in_ok-replies.replies.items c.handle.result
    c.handle.ensures.asked c.handle.ensures.outcomes c.handle.ensures.datagrams
    (subst (λ (p : Option Addr). RepliesEach (λ eid reply. IsOwnReply c.args.router.now.database eid p reply) c.args.asked.eids c.in_ok-replies.replies.items) c.probed.ensures
    (subst (λ (eids : List PrefixValue). RepliesEach (λ eid reply. IsOwnReply c.args.router.now.database eid c.probed.result reply) eids c.in_ok-replies.replies.items)
    (c.deref.ensures.value ∙ ap (λ (a : AskedValue). a.eids) c.asked.view_is) c.in_ok-replies.ensures.each))

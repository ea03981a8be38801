use Rattle.std.proofs.Common.{◌*◌, inl, inr, ap, ◌∙◌, subst}
use Rattle.lisp_records.specs.declared.address.Addr.{Addr}
use Rattle.lisp_records.specs.declared.address.Family.{Family}
use Rattle.lisp_records.specs.Address.{PrefixValue, prefix_around, width}
use Rattle.lisp_lookup.specs.Covering.{alone}
use Rattle.lisp_replies.specs.Reply.{RepliesFor, RepliesNone}
use Rattle.lisp_replies.proofs.FitLaws.{of_found}
use Rattle.lisp_replies.proofs.server.server_reply.Goals as goal

pub returns-in-Some-2-clause-reply : goal.returns-in-Some-2-clause-reply
returns-in-Some-2-clause-reply g c =
    let long = c.max_mask_len.ensures ∙ ap (λ (f : Family). 8 * width f) c.family.ensures in
    let its = of_found _ _ _ c.unwrap-alone.ensures c.new.ensures.value ∙ ap (prefix_around c.addr-addr.result) long ∙ ap alone c.addr-addr.ensures.addr in
    let reply = of_found _ _ _ c.in-Some-2.is c.in_ok-reply-2.ensures.reply in
    inr (c.in_ok-reply.ensures.unanswered c.in_default.is, inl (subst (λ (b : PrefixValue). RepliesFor c.args.table.now.rows c.args.sites.now b c.args.starting c.args.now c.in-Some-2.reply) its reply))

pub returns-clause-reply : goal.returns-clause-reply
returns-clause-reply g c = inr (c.in_ok-reply.ensures.unanswered c.in_default.is, inr (subst (λ (a : Addr). RepliesNone c.args.table.now.rows c.args.sites.now a c.args.starting c.args.now c.negative.result) c.addr-addr.ensures.addr c.negative.ensures))

use Rattle.std.proofs.Common.{◌≡◌, ◌*◌, inl, inr, List, Option, IfSome, refl, ap, ◌∙◌, subst}
use Rattle.lisp_records.specs.declared.address.Addr.{Addr}
use Rattle.lisp_records.specs.declared.address.Family.{Family}
use Rattle.lisp_records.specs.Address.{PrefixValue, width}
use Rattle.lisp_records.specs.Record.{MapRecordValue}
use Rattle.lisp_lookup.specs.Covering.{alone}
use Rattle.lisp_replies.specs.Own.{IsOwnHole, IsOwnUnanswered, NoneIsFor, OwnRepliesWith}
use Rattle.lisp_replies.proofs.OwnHoleLaws.{alone_full, alone_made}
use Rattle.lisp_replies.proofs.router.router_reply.Goals as goal

pub returns-in-Some-2-clause-reply : goal.returns-in-Some-2-clause-reply
returns-in-Some-2-clause-reply g c =
    let same = c.records-records.ensures.value in
    let unanswered = subst (λ (ms : List MapRecordValue). IsOwnUnanswered ms c.args.asked.now c.args.probed) same (c.in_ok-found.ensures.unanswered c.in_default.is) in
    let full = c.max_mask_len.ensures ∙ ap (λ (f : Family). 8 * width f) c.family.ensures in
    let its : c.unwrap-alone.result ≡ alone c.args.asked.now.addr = alone_made c.new.result c.unwrap-alone.result c.addr-addr.result c.max_mask_len.result c.unwrap-alone.ensures c.new.ensures.value full ∙ ap alone c.addr-addr.ensures.addr in
    let found = subst (λ (o : Option (List MapRecordValue)). IfSome o (λ own. OwnRepliesWith c.records-records.result.now c.unwrap-alone.result c.args.probed own)) c.in-Some-2.is c.in_ok-found-2.ensures.records in
    inr (unanswered, inl (subst (λ (b : PrefixValue). OwnRepliesWith c.args.database.now b c.args.probed c.in-Some-2.found) its (subst (λ (ms : List MapRecordValue). OwnRepliesWith ms c.unwrap-alone.result c.args.probed c.in-Some-2.found) same found)))

pub own_hole-requires : goal.own_hole-requires
own_hole-requires g c =
    let full = c.max_mask_len.ensures ∙ ap (λ (f : Family). 8 * width f) c.family.ensures in
    let its = alone_made c.new.result c.unwrap-alone.result c.addr-addr.result c.max_mask_len.result c.unwrap-alone.ensures c.new.ensures.value full in
    subst (NoneIsFor c.records-records.result.now) its (c.in_ok-found-2.ensures.alone c.in_default-2.is (alone_full c.unwrap-alone.result c.addr-addr.result its))

pub returns-clause-reply : goal.returns-clause-reply
returns-clause-reply g c =
    let same = c.records-records.ensures.value in
    let unanswered = subst (λ (ms : List MapRecordValue). IsOwnUnanswered ms c.args.asked.now c.args.probed) same (c.in_ok-found.ensures.unanswered c.in_default.is) in
    let hole = subst (λ (ms : List MapRecordValue). IsOwnHole ms c.addr-addr.result c.own_hole.result) same c.own_hole.ensures in
    inr (unanswered, inr (subst (λ (a : Addr). IsOwnHole c.args.database.now a c.own_hole.result) c.addr-addr.ensures.addr hole, refl))

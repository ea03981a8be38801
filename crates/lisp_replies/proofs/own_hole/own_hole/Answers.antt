use Rattle.std.proofs.Common.{◌≡◌, List, Option, IfSome, take, sym, subst}
use Rattle.std.proofs.lemmas.List.{take_all}
use Rattle.lisp_records.specs.Address.{PrefixValue, prefix_around}
use Rattle.lisp_records.specs.Record.{MapRecordValue}
use Rattle.lisp_replies.specs.OwnSteps.{IsLeastWithout}
use Rattle.lisp_replies.proofs.OwnHoleLaws.{IsLeastFree, free_next, hole_made}
use Rattle.lisp_replies.proofs.OwnWalkLaws.{one_more}
use Rattle.lisp_replies.proofs.own_hole.own_hole.Goals as goal

pub loop-record-preserved : goal.loop-record-preserved
loop-record-preserved g c =
    let more = one_more c.args.records.now c.loop-record.record-index c.record-item.result c.loop-record-test.true c.record-item.is in
    let its = subst (λ (b : PrefixValue). IsLeastWithout b c.args.addr.now c.loop-record.least c.least_without-least.result) c.eid_ref.ensures c.least_without-least.ensures.least in
    subst (λ (ms : List MapRecordValue). IsLeastFree ms c.args.addr.now c.least_without-least.result) (sym more)
    (free_next (take c.loop-record.record-index c.args.records.now) c.record-item.result c.args.addr.now c.loop-record.least c.least_without-least.result c.loop-record.invariant c.least_without-least.ensures.within its)

pub returns : goal.returns
returns g c =
    let value : c.unwrap.result ≡ prefix_around c.args.addr.now c.loop-record.least = subst (λ (o : Option PrefixValue). IfSome o (λ p. p ≡ prefix_around c.args.addr.now c.loop-record.least)) c.unwrap.ensures c.new.ensures.value in
    let all = subst (λ (ms : List MapRecordValue). IsLeastFree ms c.args.addr.now c.loop-record.least) (take_all c.loop-record.record-index c.args.records.now c.loop-record-test.false) c.loop-record.invariant in
    hole_made c.args.records.now c.args.addr.now c.loop-record.least c.unwrap.result value c.requires all

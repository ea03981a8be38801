use Rattle.std.proofs.Common.{◌≡◌, rules, ◌∙◌}
use Rattle.lisp_records.specs.Address.{prefix_eq}
use Rattle.lisp_records.proofs.DatabaseLemmas.{prefix_here, prefix_goes_on, prefix_ends}
use Rattle.lisp_records.proofs.database.has_prefix.Goals as goal

pub returns-then-eq : goal.returns-then-eq
returns-then-eq g c =
    prefix_here c.args.records.now c.loop-record.record-index c.record-item.result c.args.eid c.eid_ref.result.now c.loop-record-test.true c.record-item.is c.eid_ref.ensures c.loop-record.invariant (let same : prefix_eq c.args.eid c.eid_ref.result.now ≡ c.eq.result = search rules in same ∙ c.if-eq.true)

pub loop-record-preserved : goal.loop-record-preserved
loop-record-preserved g c =
    prefix_goes_on c.args.records.now c.loop-record.record-index c.record-item.result c.args.eid c.eid_ref.result.now c.loop-record-test.true c.record-item.is c.eid_ref.ensures c.loop-record.invariant (let same : prefix_eq c.args.eid c.eid_ref.result.now ≡ c.eq.result = search rules in same ∙ c.if-eq.false)

pub returns : goal.returns
returns g c = prefix_ends c.args.records.now c.loop-record.record-index c.args.eid c.loop-record-test.false c.loop-record.invariant

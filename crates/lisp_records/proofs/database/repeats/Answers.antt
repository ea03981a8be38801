use Rattle.std.proofs.Common.{sym, ◌∙◌}
use Rattle.lisp_records.proofs.DatabaseLemmas.{repeats_here, repeats_goes_on, repeats_ends}
use Rattle.lisp_records.proofs.database.repeats.Goals as goal

pub returns-then-has_prefix : goal.returns-then-has_prefix
returns-then-has_prefix g c =
    repeats_here c.args.records.now c.loop-i.i c.index-records-i.result c.eid.result c.loop-i-test.true c.index-records-i.is c.eid.ensures c.loop-i.invariant (sym c.has_prefix.ensures ∙ c.if-has_prefix.true)

pub loop-i-preserved : goal.loop-i-preserved
loop-i-preserved g c =
    repeats_goes_on c.args.records.now c.loop-i.i c.index-records-i.result c.eid.result c.loop-i-test.true c.index-records-i.is c.eid.ensures c.loop-i.invariant (sym c.has_prefix.ensures ∙ c.if-has_prefix.false)

pub returns : goal.returns
returns g c = repeats_ends c.args.records.now c.loop-i.i c.loop-i-test.false c.loop-i.invariant

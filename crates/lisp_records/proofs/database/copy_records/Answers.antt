use Rattle.std.proofs.Common.{◌∙◌}
use Rattle.std.proofs.lemmas.List.{take_all}
use Rattle.lisp_records.proofs.DatabaseLemmas.{copy_goes_on}
use Rattle.lisp_records.proofs.Grown.{on_err}
use Rattle.lisp_records.proofs.database.copy_records.Goals as goal

pub returns-in_err-copy-clause-memory : goal.returns-in_err-copy-clause-memory
returns-in_err-copy-clause-memory g c = on_err c.from_residual.result c.in_err-copy.ensures.memory

pub returns-in_err-try_push-clause-memory : goal.returns-in_err-try_push-clause-memory
returns-in_err-try_push-clause-memory g c = on_err c.from_residual-in_err-try_push.result c.in_err-try_push.ensures.refused

pub loop-record-preserved : goal.loop-record-preserved
loop-record-preserved g c =
    copy_goes_on c.args.records.now c.loop-record.copies.items c.try_push.new.self.items c.loop-record.record-index c.record-item.result c.in_ok-copy.copy c.loop-record-test.true c.record-item.is c.in_ok-copy.ensures.equal c.loop-record.invariant c.in_ok-try_push.ensures.items

pub returns-clause-equal : goal.returns-clause-equal
returns-clause-equal g c = c.from_vec.ensures ∙ c.loop-record.invariant ∙ take_all c.loop-record.record-index c.args.records.now c.loop-record-test.false

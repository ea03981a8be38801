use Rattle.lisp_records.specs.Reading.{locators_at}
use Rattle.lisp_records.proofs.Faults.{gives_fault, not_met, no_fault, locator_plain}
use Rattle.lisp_records.proofs.Loop.{goes_on, ends, is_done}
use Rattle.lisp_records.proofs.record.read_locators.Goals as goal

pub returns-in_err-locator-clause-locators : goal.returns-in_err-locator-clause-locators
returns-in_err-locator-clause-locators g c =
    gives_fault _ c.from_residual.result c.in_err-locator.field-0.0 _ c.from_residual.ensures.1 (ends c.in_err-locator.field-0.0 c.loop.locators.items c.args.count c.loop.counter c.loop.rest.now (locators_at c.args.count c.args.bytes.now) c.loop-test.true c.in_err-locator.ensures c.loop.invariant)

pub returns-in_err-locator-clause-memory : goal.returns-in_err-locator-clause-memory
returns-in_err-locator-clause-memory g c = not_met _ c.from_residual.result c.in_err-locator.field-0.0 _ (locator_plain _) c.from_residual.ensures.1 c.in_err-locator.ensures

pub loop-preserved : goal.loop-preserved
loop-preserved g c =
    rw c.in_ok-try_push.ensures.items (goes_on c.loop.locators.items c.args.count c.loop.counter c.loop.rest.now c.in_ok-locator.locator c.in_ok-locator.after.now (locators_at c.args.count c.args.bytes.now) c.loop-test.true c.in_ok-locator.ensures c.loop.invariant)

pub returns-clause-locators : goal.returns-clause-locators
returns-clause-locators g c = is_done c.loop.locators.items c.args.count c.loop.counter c.loop.rest.now (locators_at c.args.count c.args.bytes.now) c.loop-test.false c.loop.invariant

pub returns-clause-memory : goal.returns-clause-memory
returns-clause-memory g c is = no_fault _ _ is

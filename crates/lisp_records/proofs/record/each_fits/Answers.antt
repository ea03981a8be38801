use Rattle.std.proofs.lemmas.List.{take_all}
use Rattle.std.proofs.lemmas.List.Elements.{All-more, recursion_from_All}
use Rattle.lisp_records.specs.Record.{IsLocator}
use Rattle.lisp_records.proofs.record.each_fits.Goals as goal

pub loop-locator-preserved : goal.loop-locator-preserved
loop-locator-preserved c = All-more IsLocator c.args.locators.now c.loop-locator.locator-index _ c.loop-locator-test.true c.loop-locator.invariant c.locator_fits.ensures

pub returns-clause-locators : goal.returns-clause-locators
returns-clause-locators c =
    let all = take_all c.loop-locator.locator-index c.args.locators.now c.loop-locator-test.false in
    recursion_from_All IsLocator c.args.locators.now (rw all at c.loop-locator.invariant)

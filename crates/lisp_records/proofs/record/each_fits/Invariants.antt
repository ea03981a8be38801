use Rattle.std.proofs.Common.{take}
use Rattle.std.specs.Prelude.{All}
use Rattle.lisp_records.specs.Record.{IsLocator}
use Rattle.lisp_records.proofs.record.each_fits.Given as goal

-- the locators so far fit
abbrev pub invariant-loop-locator : goal.invariant-loop-locator
invariant-loop-locator l = All IsLocator (take l.locator-index l.locators)

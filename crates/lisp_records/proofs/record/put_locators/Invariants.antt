use Rattle.std.proofs.Common.{◌≡◌, ◌++◌, take}
use Rattle.lisp_records.specs.Written.{written_locators}
use Rattle.lisp_records.proofs.record.put_locators.Given as goal

-- the locators so far are appended
abbrev pub invariant-loop-locator : goal.invariant-loop-locator
invariant-loop-locator g l = l.out.items ≡ l.fn.out.items ++ written_locators (take l.locator-index l.locators)

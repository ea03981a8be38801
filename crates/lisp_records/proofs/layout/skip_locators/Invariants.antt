use Rattle.std.proofs.Common.{◌≡◌, ◌-◌, List}
use Rattle.lisp_records.specs.declared.locator.Locator.{Locator}
use Rattle.lisp_records.specs.Reading.{locators_at}
use Rattle.lisp_records.proofs.Loop.{with_front}
use Rattle.lisp_records.proofs.layout.skip_locators.Given as goal

-- some locators were passed, and with those still to pass they are what was to be read
abbrev pub invariant-loop : goal.invariant-loop
invariant-loop l = (front : List Locator) × (with_front front (locators_at (l.count - l.counter) l.rest) ≡ locators_at l.count l.bytes)

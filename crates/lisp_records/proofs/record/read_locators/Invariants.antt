use Rattle.std.proofs.Common.{◌≡◌, ◌-◌}
use Rattle.lisp_records.specs.Reading.{locators_at}
use Rattle.lisp_records.proofs.Loop.{with_front}
use Rattle.lisp_records.proofs.record.read_locators.Given as goal

-- the locators so far, and those still to read, are what was to be read
abbrev pub invariant-loop : goal.invariant-loop
invariant-loop g l = with_front l.locators.items (locators_at (l.count - l.counter) l.rest) ≡ locators_at l.count l.bytes

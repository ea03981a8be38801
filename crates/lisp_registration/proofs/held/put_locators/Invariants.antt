use Rattle.std.proofs.Common.{◌≡◌, ◌++◌, take, drop}
use Rattle.lisp_registration.specs.Plain.{plain_locators}
use Rattle.lisp_registration.proofs.held.put_locators.Given as goal

-- those so far stand in front, and the others are as they were
abbrev pub invariant-loop-place : goal.invariant-loop-place
invariant-loop-place l = l.plain ≡ plain_locators (take l.place l.locators) ++ drop l.place l.fn.plain

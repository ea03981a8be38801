use Rattle.std.proofs.Common.{◌≡◌, map, take}
use Rattle.lisp_replies.specs.Own.{own_locator}
use Rattle.lisp_replies.proofs.own_records.own_locators.Given as goal

-- the locators so far
abbrev pub invariant-loop-locator : goal.invariant-loop-locator
invariant-loop-locator g l = l.own.items ≡ map (own_locator l.probed) (take l.locator-index l.locators)

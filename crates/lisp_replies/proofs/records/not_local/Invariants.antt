use Rattle.std.proofs.Common.{◌≡◌, map, take}
use Rattle.lisp_lookup.specs.Replies.{not_local}
use Rattle.lisp_replies.proofs.records.not_local.Given as goal

abbrev pub invariant-loop-locator : goal.invariant-loop-locator
invariant-loop-locator g l = l.copies.items ≡ map not_local (take l.locator-index l.locators)

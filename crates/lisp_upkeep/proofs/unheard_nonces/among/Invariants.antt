use Rattle.std.proofs.Common.{◌≡◌, take}
use Rattle.lisp_upkeep.specs.Unheard.{members_of}
use Rattle.lisp_upkeep.proofs.unheard_nonces.among.Given as goal

-- those of the items so far
abbrev pub invariant-loop-item : goal.invariant-loop-item
invariant-loop-item g l = l.found.items ≡ members_of g.K.PartialEq.eq l.members (take l.item-index l.items)

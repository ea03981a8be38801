use Rattle.std.proofs.Common.{take}
use Rattle.lisp_upkeep.specs.Unheard.{AreMembers}
use Rattle.lisp_upkeep.proofs.unheard_nonces.set_of.Given as goal

-- the members so far
abbrev pub invariant-loop-member : goal.invariant-loop-member
invariant-loop-member g l = AreMembers g.K.Ord.cmp g.K.PartialEq.eq l.set (take l.member-index l.members)

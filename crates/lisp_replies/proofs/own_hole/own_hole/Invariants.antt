use Rattle.std.proofs.Common.{take}
use Rattle.lisp_replies.proofs.OwnHoleLaws.{IsLeastFree}
use Rattle.lisp_replies.proofs.own_hole.own_hole.Given as goal

-- of the prefixes around the address those of this length and longer ones have no prefix of the records so far in them
abbrev pub invariant-loop-record : goal.invariant-loop-record
invariant-loop-record g l = IsLeastFree (take l.record-index l.records) l.addr l.least

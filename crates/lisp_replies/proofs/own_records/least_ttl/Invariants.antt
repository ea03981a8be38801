use Rattle.std.proofs.Common.{◌∷◌, take}
use Rattle.lisp_replies.specs.Own.{IsLeastOwnTtl, own_inside}
use Rattle.lisp_replies.proofs.own_records.least_ttl.Given as goal

-- the least TTL of the records so far
abbrev pub invariant-loop-record : goal.invariant-loop-record
invariant-loop-record g l = IsLeastOwnTtl (l.longest ∷ own_inside (take l.record-index l.records) l.eid) l.least

use Rattle.std.proofs.Common.{◌≡◌, ◌∷◌, map, take}
use Rattle.lisp_replies.specs.Own.{own_inside, own_record}
use Rattle.lisp_replies.proofs.own_records.own_records.Given as goal

-- the records so far
abbrev pub invariant-loop-record : goal.invariant-loop-record
invariant-loop-record g l = l.own.items ≡ own_record l.probed l.ttl l.eid l.longest ∷ map (λ m. own_record l.probed l.ttl m.eid m) (own_inside (take l.record-index l.records) l.eid)

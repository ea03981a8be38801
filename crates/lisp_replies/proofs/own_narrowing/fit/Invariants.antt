use Rattle.std.proofs.Common.{◌≡◌, ◌∷◌, ◌+◌, ◌*◌, ◌≤◌, length, take}
use Rattle.lisp_records.specs.Parts.{size}
use Rattle.lisp_replies.specs.Own.{own_inside}
use Rattle.lisp_replies.proofs.own_narrowing.fit.Given as goal

-- the count and the size of the records so far
abbrev pub invariant-loop-record : goal.invariant-loop-record
invariant-loop-record g l = record {
  count : l.count ≡ 1 + length (own_inside (take l.record-index l.records) l.eid);
  size : l.size ≡ size (l.longest ∷ own_inside (take l.record-index l.records) l.eid);
  few : l.count ≤ l.record-index + 1;
  small : l.size ≤ 6148 * (l.record-index + 1);
}

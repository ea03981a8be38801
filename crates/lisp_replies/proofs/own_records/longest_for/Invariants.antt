use Rattle.std.proofs.Common.{take}
use Rattle.std.specs.List.{All}
use Rattle.std.specs.Option.{option_map}
use Rattle.lisp_records.specs.Address.{IsPrefix}
use Rattle.lisp_replies.specs.Own.{IsLongestForOf}
use Rattle.lisp_replies.proofs.own_records.longest_for.Given as goal

-- the longest of the records so far
abbrev pub invariant-loop-record : goal.invariant-loop-record
invariant-loop-record g l = record {
  longest : IsLongestForOf (take l.record-index l.records) l.asked (option_map (λ m. m.now) l.longest);
  blocks : All (λ m. IsPrefix m.eid) (take l.record-index l.records);
}

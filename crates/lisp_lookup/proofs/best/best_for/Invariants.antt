use Rattle.std.proofs.Common.{◌≡◌, ◌+◌, ◌<◌, ◌≤◌, ℕ, true}
use Rattle.std.specs.List.{Contains}
use Rattle.lisp_records.specs.{Address.prefix_around, Row.RowValue}
use Rattle.lisp_lookup.specs.{Covering.may_answer_for, Index.IsFirstOf}
use Rattle.lisp_lookup.proofs.best.best_for.Given as goal

-- the masks of the rows that may answer are shorter than those that were gone through, of which one was sought last
abbrev pub invariant-loop-shorter : goal.invariant-loop-shorter
invariant-loop-shorter g l = record {
  shorter : (h : RowValue) → Contains l.rows h → may_answer_for l.asked l.now h ≡ true → h.mapping.eid.mask_len + l.shorter ≤ l.longest;
  sought : (m : ℕ) × (l.longest < m + l.shorter) × (m ≤ l.longest) × IsFirstOf (prefix_around l.addr m) l.rows l.by_prefix.items l.first;
}

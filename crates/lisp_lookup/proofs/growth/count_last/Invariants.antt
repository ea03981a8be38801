use Rattle.std.proofs.Common.{◌≡◌, ◌+◌, ◌≤◌, length}
use Rattle.std.specs.List.{count_by}
use Rattle.lisp_lookup.specs.Setting.{is_live_in, last_rows}
use Rattle.lisp_lookup.proofs.growth.count_last.Given as goal

abbrev pub invariant-loop-row : goal.invariant-loop-row
invariant-loop-row g l = record {
  counts : l.count + count_by (is_live_in l.site l.now) (last_rows l.rest) ≡ count_by (is_live_in l.site l.now) (last_rows l.given);
  few : l.count + length l.rest ≤ length l.given;
}

abbrev pub decreases-loop-row : goal.decreases-loop-row
decreases-loop-row g l = length l.rest

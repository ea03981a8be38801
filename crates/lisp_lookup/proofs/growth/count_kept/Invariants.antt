use Rattle.std.proofs.Common.{◌≡◌, ◌≤◌, take}
use Rattle.std.specs.List.{count_by}
use Rattle.lisp_lookup.specs.Setting.{stays_live}
use Rattle.lisp_lookup.proofs.growth.count_kept.Given as goal

abbrev pub invariant-loop-row : goal.invariant-loop-row
invariant-loop-row g l = record {
  counts : l.count ≡ count_by (stays_live l.given l.site l.now) (take l.row-index l.rows);
  few : l.count ≤ l.row-index;
}

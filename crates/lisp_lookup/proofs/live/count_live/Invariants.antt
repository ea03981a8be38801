use Rattle.std.proofs.Common.{◌≤◌, take}
use Rattle.lisp_lookup.proofs.LiveLaws.{Counts}
use Rattle.lisp_lookup.proofs.live.count_live.Given as goal

abbrev pub invariant-loop-row : goal.invariant-loop-row
invariant-loop-row g l = record {
  counts : Counts (take l.row-index l.rows) l.router l.now l.count l.size;
  few : l.count ≤ 255;
  small : l.size ≤ 16384;
}

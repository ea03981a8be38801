use Rattle.std.proofs.Common.{◌≡◌, ◌+◌, ◌^◌, ◌<◌, length}
use Rattle.std.specs.List.{sum_by}
use Rattle.lisp_lines.specs.Walk.{up_to_most}
use Rattle.lisp_statistics.specs.SiteCounts.{routers_of}
use Rattle.lisp_statistics.proofs.site_counts.held_of.Given as goal

-- what is counted so far, and what is left to count
abbrev pub invariant-loop-more : goal.invariant-loop-more
invariant-loop-more g l = record {
  rows : up_to_most (l.rows + sum_by (λ e. e.1) l.more-iterator) ≡ up_to_most (sum_by (λ e. e.1) (routers_of l.counts.entries l.site));
  routers : up_to_most (l.routers + length l.more-iterator) ≡ up_to_most (length (routers_of l.counts.entries l.site));
  few_rows : l.rows < 2 ^ 64;
  few_routers : l.routers < 2 ^ 64;
}

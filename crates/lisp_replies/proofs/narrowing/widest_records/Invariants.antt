use Rattle.std.proofs.Common.{ℕ, ◌-◌, ◌<◌, ◌≤◌}
use Rattle.lisp_records.specs.Address.{prefix_around}
use Rattle.lisp_replies.specs.Narrowing.{FitFor, NoneFitFor}
use Rattle.lisp_replies.proofs.narrowing.widest_records.Given as goal

-- the length is between the two: records fit for the upper one, and none for each that is wider than the lower one
abbrev pub invariant-loop-low : goal.invariant-loop-low
invariant-loop-low g l = record {
  order : l.low ≤ l.high;
  from : l.best.mapping.eid.mask_len < l.low;
  within : l.high ≤ l.asked.mask_len;
  fit : FitFor l.table.rows (prefix_around l.asked.addr l.high) l.now l.best l.records.items;
  wider : (n : ℕ) → l.best.mapping.eid.mask_len ≤ n → n < l.low → NoneFitFor l.table.rows (prefix_around l.asked.addr n) l.now l.best;
}

abbrev pub decreases-loop-low : goal.decreases-loop-low
decreases-loop-low g l = l.high - l.low

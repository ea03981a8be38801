use Rattle.std.proofs.Common.{◌-◌, ◌<◌, ◌≤◌, ℕ}
use Rattle.lisp_records.specs.Address.{max_len, prefix_around}
use Rattle.lisp_lookup.specs.Hole.{IsEmptyIn}
use Rattle.lisp_lookup.proofs.hole.widest_empty.Given as goal

-- the length is between the two: no row has a prefix in that of the upper one, and some has in each that is wider than the lower one's
abbrev pub invariant-loop-low : goal.invariant-loop-low
invariant-loop-low g l = record {
  order : l.low ≤ l.high;
  within : l.high ≤ max_len l.addr;
  least : l.least ≤ l.low;
  empty : IsEmptyIn l.rows (prefix_around l.addr l.high) l.now;
  wider : (n : ℕ) → l.least ≤ n → n < l.low → IsEmptyIn l.rows (prefix_around l.addr n) l.now → ⊥;
}

abbrev pub decreases-loop-low : goal.decreases-loop-low
decreases-loop-low g l = l.high - l.low

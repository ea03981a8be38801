use Rattle.std.proofs.Common.{◌≡◌, ◌-◌, ◌<◌, ◌≤◌, ℕ, true, false}
use Rattle.lisp_records.specs.Address.{prefix_around}
use Rattle.lisp_replies.specs.OwnSteps.{own_fit}
use Rattle.lisp_replies.proofs.own_narrowing.widest_that_fits.Given as goal

-- the length is between the two: the records fit for the upper one, and for none that is shorter than the lower one
abbrev pub invariant-loop-low : goal.invariant-loop-low
invariant-loop-low g l = record {
  order : l.low ≤ l.high;
  from : l.longest.eid.mask_len ≤ l.low;
  within : l.high ≤ l.asked.mask_len;
  fit : own_fit l.records l.longest (prefix_around l.asked.addr l.high) ≡ true;
  wider : (n : ℕ) → l.longest.eid.mask_len ≤ n → n < l.low → own_fit l.records l.longest (prefix_around l.asked.addr n) ≡ false;
}

abbrev pub decreases-loop-low : goal.decreases-loop-low
decreases-loop-low g l = l.high - l.low

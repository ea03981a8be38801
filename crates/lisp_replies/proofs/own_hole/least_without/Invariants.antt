use Rattle.std.proofs.Common.{◌≡◌, ◌-◌, ◌<◌, ◌≤◌, ℕ, true}
use Rattle.lisp_records.specs.Address.{covers, prefix_around}
use Rattle.lisp_replies.proofs.own_hole.least_without.Given as goal

-- the other prefix lies in each of a shorter length that was looked at
abbrev pub invariant-loop-length : goal.invariant-loop-length
invariant-loop-length l = record {
  from : l.from ≤ l.length;
  within : l.length ≤ l.longest;
  was : (n : ℕ) → l.from ≤ n → n < l.length → covers (prefix_around l.addr n) l.other ≡ true;
}

abbrev pub decreases-loop-length : goal.decreases-loop-length
decreases-loop-length l = l.longest - l.length

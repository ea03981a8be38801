use Rattle.std.proofs.Common.{◌≡◌, ℕ, ◌+◌, ◌-◌, ◌<◌, ◌≤◌, true, false, length}
use Rattle.lisp_records.specs.Row.{RowValue}
use Rattle.lisp_lookup.specs.Index.{is_before, row_at_place}
use Rattle.lisp_lookup.proofs.IndexLaws.{Cost}
use Rattle.lisp_lookup.proofs.find.find.Given as goal

abbrev pub invariant-loop-size : goal.invariant-loop-size
invariant-loop-size g l = record {
  within : l.low + l.size ≤ length l.rows.numbers;
  before : (i : ℕ) (d : RowValue) → i < l.low → is_before l.probe (row_at_place l.rows.rows l.rows.numbers i d) ≡ true;
  after : (i : ℕ) (d : RowValue) → l.low + l.size ≤ i → i < length l.rows.numbers → is_before l.probe (row_at_place l.rows.rows l.rows.numbers i d) ≡ false;
  grown : l.fn.steps ≤ l.steps;
  cost : Cost (l.steps - l.fn.steps) l.size (length l.rows.numbers);
}

abbrev pub decreases-loop-size : goal.decreases-loop-size
decreases-loop-size g l = l.size

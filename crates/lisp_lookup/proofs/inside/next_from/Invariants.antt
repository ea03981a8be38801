use Rattle.std.proofs.Common.{◌≡◌, ◌<◌, ◌≤◌, ℕ, false}
use Rattle.lisp_records.specs.Row.{RowValue}
use Rattle.lisp_lookup.specs.Index.{row_at_place}
use Rattle.lisp_lookup.proofs.InsideLaws.{is_hit}
use Rattle.lisp_lookup.proofs.inside.next_from.Given as goal

-- no row that was looked at is sought
abbrev pub invariant-loop-place : goal.invariant-loop-place
invariant-loop-place g l = (k : ℕ) (d : RowValue) → l.from ≤ k → k < l.place → is_hit l.outer l.after l.now (row_at_place l.rows l.by_prefix.items k d) ≡ false

use Rattle.std.proofs.Common.{◌≡◌, ◌≤◌, ◌<◌, ℕ}
use Rattle.std.specs.Option.{option_map}
use Rattle.lisp_records.specs.Row.{RowValue}
use Rattle.lisp_lookup.specs.Index.{row_at_place}
use Rattle.lisp_lookup.proofs.AnswerLaws.{BestIn}
use Rattle.lisp_lookup.proofs.BestLaws.{Seen}
use Rattle.lisp_lookup.proofs.best.best_from.Given as goal

abbrev pub invariant-loop-place : goal.invariant-loop-place
invariant-loop-place g l = record {
  same : (k : ℕ) (d : RowValue) → l.first ≤ k → k < l.place → (row_at_place l.rows l.by_prefix.items k d).mapping.eid ≡ l.prefix;
  best : BestIn (Seen l.rows l.by_prefix.items l.first l.place) l.addr l.now (option_map (λ row. row.now) l.best);
}

use Rattle.std.proofs.Common.{◌≡◌, length}
use Rattle.std.specs.List.{list_any}
use Rattle.lisp_lookup.specs.Setting.{is_new, last_rows}
use Rattle.lisp_lookup.proofs.table.Table.adds_row.Given as goal

abbrev pub invariant-loop-row : goal.invariant-loop-row
invariant-loop-row g l = list_any (is_new l.self.rows l.site l.now) (last_rows l.rest) ≡ list_any (is_new l.self.rows l.site l.now) (last_rows l.given)

abbrev pub decreases-loop-row : goal.decreases-loop-row
decreases-loop-row g l = length l.rest

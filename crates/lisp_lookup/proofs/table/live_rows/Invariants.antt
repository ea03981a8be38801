use Rattle.std.proofs.Common.{◌≡◌, take}
use Rattle.std.specs.List.{filter}
use Rattle.lisp_records.specs.Row.{is_alive}
use Rattle.lisp_lookup.proofs.table.live_rows.Given as goal

abbrev pub invariant-loop-row : goal.invariant-loop-row
invariant-loop-row g l = l.live.items ≡ filter (λ h. is_alive h l.now) (take l.row-index l.rows)

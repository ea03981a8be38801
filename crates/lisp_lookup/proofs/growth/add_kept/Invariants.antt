use Rattle.std.proofs.Common.{take}
use Rattle.lisp_lookup.specs.Setting.{AddsRouters, kept_rows}
use Rattle.lisp_lookup.proofs.growth.add_kept.Given as goal

abbrev pub invariant-loop-row : goal.invariant-loop-row
invariant-loop-row g l = AddsRouters l.initial.routers l.routers l.site l.now (kept_rows (take l.row-index l.rows) l.given)

use Rattle.std.proofs.Common.{◌-◌, length, ap, ◌∙◌}
use Rattle.lisp_lookup.specs.Table.{TableState}
use Rattle.lisp_lookup.proofs.PutLaws.{room_read, fits_last, fits_not_first, fits_not_second}
use Rattle.lisp_lookup.proofs.table.Table.ready.Goals.{then-rows-capacity, else-rows-capacity}
use Rattle.lisp_lookup.proofs.table.Table.ready.Goals as goal

pub returns-then-rows-prefixes : goal.returns-then-rows-prefixes
returns-then-rows-prefixes g c = fits_last (length c.args.rows.now) (c.capacity-3.result - c.len-3.result) (c.capacity.result - c.len.result) (c.capacity-2.result - c.len-2.result) c.args.self.now.spare (room_read _ _ _ _ _ _ _ _ _ _ _ _ _ c.capacity-3.ensures c.len-3.ensures c.capacity.ensures c.len.ensures c.capacity-2.ensures c.len-2.ensures (ap (λ (s : TableState). s.spare) c.self.view_is)) c.if-rows-prefixes.true

pub returns-else-rows-prefixes : goal.returns-else-rows-prefixes
returns-else-rows-prefixes g c = elim c.if-rows-capacity.branch [
  | then-rows-capacity w ↦ w.t-12-is ∙ fits_not_second (length c.args.rows.now) (c.capacity-3.result - c.len-3.result) (c.capacity.result - c.len.result) (c.capacity-2.result - c.len-2.result) c.args.self.now.spare (room_read _ _ _ _ _ _ _ _ _ _ _ _ _ c.capacity-3.ensures c.len-3.ensures c.capacity.ensures c.len.ensures c.capacity-2.ensures c.len-2.ensures (ap (λ (s : TableState). s.spare) c.self.view_is)) w.if-rows-capacity.true c.if-rows-prefixes.either
  | else-rows-capacity w ↦ w.t-12-is ∙ fits_not_first (length c.args.rows.now) (c.capacity-3.result - c.len-3.result) (c.capacity.result - c.len.result) (c.capacity-2.result - c.len-2.result) c.args.self.now.spare (room_read _ _ _ _ _ _ _ _ _ _ _ _ _ c.capacity-3.ensures c.len-3.ensures c.capacity.ensures c.len.ensures c.capacity-2.ensures c.len-2.ensures (ap (λ (s : TableState). s.spare) c.self.view_is)) w.if-rows-capacity.false
]

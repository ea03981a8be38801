use Rattle.std.proofs.Common.{◌≤◌, length}
use Rattle.std.specs.Vec.Iter.{into_iter_items}
use Rattle.lisp_lookup.specs.Table.{Sets}
use Rattle.lisp_lookup.proofs.table.Table.put_all.Given as goal

abbrev pub invariant-loop-row : goal.invariant-loop-row
invariant-loop-row g l = record {
  set : Sets l.fn.self.rows l.self.rows l.yielded;
  room : length (into_iter_items l.row-iterator) ≤ l.self.spare;
}

use Rattle.std.proofs.Common.{length}
use Rattle.lisp_lookup.specs.Table.{OneEach}
use Rattle.lisp_lookup.proofs.PutLaws.{Dropped}
use Rattle.lisp_lookup.proofs.table.Table.drop_dead.Given as goal

abbrev pub invariant-loop-number : goal.invariant-loop-number
invariant-loop-number g l = record {
  dropped : Dropped l.fn.self.rows l.self.rows l.now;
  apart : OneEach l.fn.self.rows;
}

abbrev pub decreases-loop-number : goal.decreases-loop-number
decreases-loop-number g l = length l.self.rows

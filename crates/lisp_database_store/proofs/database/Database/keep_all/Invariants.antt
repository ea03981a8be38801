use Rattle.std.proofs.Common.{Option, take}
use Rattle.lisp_database_store.specs.Table.{Begins, SavesEach}
use Rattle.lisp_database_store.proofs.database.Database.keep_all.Given as goal

abbrev pub invariant-loop-kept : goal.invariant-loop-kept
invariant-loop-kept g l = (begun : Option g.row.T.Denot) × Begins g.T.Table.means l.fn.self.table begun × SavesEach g.T.Table.means begun l.self.table (take l.kept-index l.found)

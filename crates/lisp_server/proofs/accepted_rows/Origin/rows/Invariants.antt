use Rattle.std.proofs.Common.{◌≡◌, map}
use Rattle.lisp_server.specs.AcceptedRows.{row_of}
use Rattle.lisp_server.proofs.accepted_rows.Origin.rows.Given as goal

abbrev pub invariant-loop-mapping : goal.invariant-loop-mapping
invariant-loop-mapping g l = l.rows.items ≡ map (row_of l.self) l.yielded

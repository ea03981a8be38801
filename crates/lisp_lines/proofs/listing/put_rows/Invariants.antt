use Rattle.std.specs.String.{string_bytes}
use Rattle.lisp_lines.proofs.Rows.{HasPut}
use Rattle.lisp_lines.proofs.listing.put_rows.Given as goal

-- the rows so far, and their lines
abbrev pub invariant-loop-count : goal.invariant-loop-count
invariant-loop-count g l = HasPut l.config l.core.rows l.fn.walk l.walk (string_bytes l.fn.text) (string_bytes l.text) l._count

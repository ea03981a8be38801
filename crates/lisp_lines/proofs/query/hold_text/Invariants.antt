use Rattle.std.proofs.Common.{◌≡◌, ◌++◌, take, length}
use Rattle.std.specs.Prelude.{string_bytes}
use Rattle.std.specs.List.{flat_map}
use Rattle.lisp_lines.specs.Query.{row_text}
use Rattle.lisp_lines.proofs.Appends.{head_text}
use Rattle.lisp_lines.proofs.query.hold_text.Given as goal

-- the line of their number, and the rows so far
abbrev pub invariant-loop-row : goal.invariant-loop-row
invariant-loop-row g l = string_bytes l.text ≡ head_text l.config l.server (length l.rows) ++ flat_map (row_text l.config l.wording l.now) (take l.row-index l.rows)

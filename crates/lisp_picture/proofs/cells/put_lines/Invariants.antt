use Rattle.std.proofs.Common.{string_bytes}
use Rattle.lisp_picture.specs.Picture.{AddsLines}
use Rattle.lisp_picture.proofs.cells.put_lines.Given as goal

-- the lines so far were appended
abbrev pub invariant-loop-cells : goal.invariant-loop-cells
invariant-loop-cells g l = AddsLines (string_bytes l.fn.text) (string_bytes l.text)

use Rattle.std.proofs.Common.{take, ◌++◌}
use Rattle.std.specs.List.{flat_map}
use Rattle.std.specs.Io.KnownBytes.{Appends}
use Rattle.lisp_refusals.specs.Table.{section_head, row_line}
use Rattle.lisp_refusals.proofs.document.write_section.Given as goal

-- what was written so far
abbrev pub invariant-loop-row : goal.invariant-loop-row
invariant-loop-row g l = Appends (g.W.Write.contents l.fn.writer) (g.W.Write.contents l.writer) (section_head l.section ++ flat_map row_line (take l.row-index l.section.rows.now))

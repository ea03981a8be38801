use Rattle.std.proofs.Common.{take}
use Rattle.std.specs.List.{flat_map}
use Rattle.std.specs.Io.KnownBytes.{Appends}
use Rattle.lisp_refusals.specs.Table.{entry}
use Rattle.lisp_refusals.proofs.explaining.explain_section.Given as goal

-- what was written so far
abbrev pub invariant-loop-row : goal.invariant-loop-row
invariant-loop-row g l = Appends (g.W.Write.contents l.fn.writer) (g.W.Write.contents l.writer) (flat_map (entry l.number l.section) (take l.row-index l.section.rows.now))

use Rattle.std.proofs.Common.{take}
use Rattle.std.specs.List.{flat_map}
use Rattle.std.specs.Io.KnownBytes.{Appends}
use Rattle.lisp_refusals.specs.Table.{section_document}
use Rattle.lisp_refusals.proofs.document.write_sections.Given as goal

-- what was written so far
abbrev pub invariant-loop-section : goal.invariant-loop-section
invariant-loop-section g l = Appends (g.W.Write.contents l.fn.writer) (g.W.Write.contents l.writer) (flat_map (section_document) (take l.section-index l.sections))

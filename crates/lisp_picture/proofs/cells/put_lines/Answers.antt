use Rattle.lisp_picture.specs.Picture.{NoLine, OneMore}
use Rattle.lisp_picture.proofs.cells.put_lines.Goals as goal

pub loop-cells-init : goal.loop-cells-init
loop-cells-init g c = NoLine _

pub loop-cells-preserved : goal.loop-cells-preserved
loop-cells-preserved g c = OneMore _ _ _ c.trimmed.result.now c.loop-cells.invariant c.trimmed.ensures.short c.in_ok-put_line.ensures.text

use Rattle.lisp_picture.specs.Picture.{NoLine, Numbered}
use Rattle.lisp_picture.proofs.Elements.{event, lines_then}
use Rattle.lisp_picture.proofs.ladder.put_event.Goals as goal

pub returns-clause-element : goal.returns-clause-element
returns-clause-element g c words = event c.args.number words _ _ _ c.in_ok-put_numbered.ensures.line c.in_ok-put_lines.ensures.lines

pub returns-clause-lines : goal.returns-clause-lines
returns-clause-lines g c = lines_then _ _ _ (Numbered _ _ _ c.args.number (NoLine _) c.in_ok-put_numbered.ensures.line) c.in_ok-put_lines.ensures.lines

use Rattle.std.proofs.Common.{string_bytes}
use Rattle.lisp_picture.specs.declared.drawing.Form.TheVariants.{Svg}
use Rattle.lisp_picture.specs.Picture.{AddsElements, texts_of}
use Rattle.lisp_picture.proofs.svg.put_elements.Given as goal

-- the elements so far were appended
abbrev pub invariant-loop-place : goal.invariant-loop-place
invariant-loop-place g l = AddsElements Svg (texts_of l.history.outcomes.items) l.place (string_bytes l.fn.text) (string_bytes l.text)

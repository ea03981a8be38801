use Rattle.std.proofs.Common.{◌≡◌, ◌++◌, length, string_bytes}
use Rattle.lisp_picture.specs.Picture.{plain_text}
use Rattle.lisp_picture.proofs.cells.put_cells.Given as goal

-- the text, and the characters that are left
abbrev pub invariant-loop-rest : goal.invariant-loop-rest
invariant-loop-rest g l = string_bytes l.text ++ plain_text l.rest ≡ string_bytes l.fn.text ++ plain_text l.cells

abbrev pub decreases-loop-rest : goal.decreases-loop-rest
decreases-loop-rest g l = length l.rest

use Rattle.std.proofs.Common.{refl}
use Rattle.lisp_refusals.specs.Table.{row_text}
use Rattle.lisp_refusals.proofs.explaining.texts_behind_number.Goals as goal

pub returns : goal.returns
unfolding row_text
returns c = rw (c.mark_at.ensures, c.mark_at-2.ensures, c.mark_at-3.ensures) refl

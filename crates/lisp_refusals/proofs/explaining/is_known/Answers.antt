use Rattle.std.proofs.Common.{◌∙◌}
use Rattle.lisp_refusals.proofs.Known.{known}
use Rattle.lisp_refusals.proofs.explaining.is_known.Goals as goal

pub returns : goal.returns
returns c = c.is_in.ensures ∙ known _ _ c.sections.ensures

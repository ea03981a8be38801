use Rattle.std.proofs.Common.{refl}
use Rattle.lisp_look.proofs.positive.is_positive.Goals as goal

pub returns : goal.returns
returns g c = rw (← c.reply.view_is, c.is_mapped.ensures, c.told_of.ensures, c.as_slice-records.ensures) refl

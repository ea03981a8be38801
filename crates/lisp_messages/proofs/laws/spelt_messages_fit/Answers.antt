use Rattle.lisp_messages.proofs.FitLaws.{said_fits}
use Rattle.lisp_messages.proofs.laws.spelt_messages_fit.Goals as goal

pub returns : goal.returns
returns c = said_fits

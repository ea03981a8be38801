use Rattle.lisp_replies.proofs.FitLaws.{wider_fits_not}
use Rattle.lisp_replies.proofs.laws.wider_fits_not.Goals as goal

pub returns : goal.returns
returns c = wider_fits_not

use Rattle.lisp_requests.proofs.FitLaws.{reply_fits}
use Rattle.lisp_requests.proofs.laws.spelt_replies_fit.Goals as goal

pub returns : goal.returns
returns c = reply_fits

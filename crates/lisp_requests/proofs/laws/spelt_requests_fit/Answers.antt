use Rattle.lisp_requests.proofs.FitLaws.{request_fits}
use Rattle.lisp_requests.proofs.laws.spelt_requests_fit.Goals as goal

pub returns : goal.returns
returns c = request_fits

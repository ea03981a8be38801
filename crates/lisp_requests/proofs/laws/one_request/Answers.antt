use Rattle.lisp_requests.proofs.RequestLaws.{one_request}
use Rattle.lisp_requests.proofs.laws.one_request.Goals as goal

pub returns : goal.returns
returns c = one_request

use Rattle.lisp_requests.proofs.EncapsulatedLaws.{one_encapsulated}
use Rattle.lisp_requests.proofs.laws.one_encapsulated.Goals as goal

pub returns : goal.returns
returns c = one_encapsulated

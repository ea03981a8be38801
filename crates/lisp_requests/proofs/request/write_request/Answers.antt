use Rattle.std.proofs.Common.{List, ℕ, sym, subst}
use Rattle.lisp_requests.specs.Request.{SpellsRequest}
use Rattle.lisp_requests.proofs.RequestLaws.{request_spelled}
use Rattle.lisp_requests.proofs.request.write_request.Goals as goal

pub returns-clause-spells : goal.returns-clause-spells
returns-clause-spells g c = subst (λ (bytes : List ℕ). SpellsRequest bytes c.args.request.now) (sym c.in_ok-put_request.ensures.written) (request_spelled c.args.request.now c.in_ok-put_request.ensures.known)

use Rattle.std.proofs.Common.{arith}
use Rattle.lisp_requests.specs.Request.{SpellsRequest, request_at}
use Rattle.lisp_requests.proofs.GivenLaws.{found, only}
use Rattle.lisp_requests.proofs.RequestLaws.{request_takes, request_again}
use Rattle.lisp_requests.proofs.request.read_request.Goals as goal

pub returns-clause-found : goal.returns-clause-found
returns-clause-found g c =
    let bytes = c.args.bytes.now in
    found _ (SpellsRequest bytes) c.read_whole.result (request_at bytes) (λ m. request_takes bytes m (λ i. omega (arith, c.type_inv.bytes i))) c.read_whole.ensures.exact

pub returns-clause-only : goal.returns-clause-only
returns-clause-only g c m spells =
    let bytes = c.args.bytes.now in
    only _ c.read_whole.result (request_at bytes) m (request_again bytes m spells) c.read_whole.ensures.exact

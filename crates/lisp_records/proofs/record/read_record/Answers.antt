use Rattle.std.proofs.Common.{arith}
use Rattle.lisp_records.proofs.Positions.{record_found, record_only}
use Rattle.lisp_records.proofs.record.read_record.Goals as goal

pub returns-clause-found : goal.returns-clause-found
returns-clause-found g c =
    record_found c.args.bytes.now c.args.at c.read_at.result c.requires (λ i. omega (arith, c.type_inv.bytes i)) c.read_at.ensures.within c.read_at.ensures.exact

pub returns-clause-only : goal.returns-clause-only
returns-clause-only g c = record_only c.args.bytes.now c.args.at c.read_at.result c.requires c.read_at.ensures.within c.read_at.ensures.exact

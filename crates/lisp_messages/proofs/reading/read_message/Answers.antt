use Rattle.std.proofs.Common.{arith}
use Rattle.lisp_messages.proofs.ReadLemmas.{message_found, message_only}
use Rattle.lisp_messages.proofs.reading.read_message.Goals as goal

pub returns-clause-found : goal.returns-clause-found
returns-clause-found g c = message_found c.args.bytes.now c.read_whole.result (λ i. omega (arith, c.type_inv.bytes i)) c.read_whole.ensures.exact

pub returns-clause-only : goal.returns-clause-only
returns-clause-only g c = message_only c.args.bytes.now c.read_whole.result c.read_whole.ensures.exact

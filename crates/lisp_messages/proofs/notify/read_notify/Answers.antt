use Rattle.lisp_messages.proofs.Ends.{notify_refused, notify_is}
use Rattle.lisp_messages.proofs.notify.read_notify.Goals as goal

pub returns-then-not-tail : goal.returns-then-not-tail
returns-then-not-tail g c = notify_refused c.args.ack c.args.bytes.now c.args.records.items c.args.tail.now c.is_empty.result c.is_empty.ensures (assumption)

pub invariant_of-result : goal.invariant_of-result
invariant_of-result g c = rw c.from_vec.ensures c.requires.few

pub returns : goal.returns
returns g c = notify_is c.args.ack c.args.bytes.now c.args.records.items c.from_vec.result c.args.tail.now c.read_nonce.result c.is_empty.result c.is_empty.ensures (assumption) c.read_nonce.ensures c.from_vec.ensures

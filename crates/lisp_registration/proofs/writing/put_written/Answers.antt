use Rattle.std.proofs.Common.{ℕ, Ok, Err, ap, ◌∙◌}
use Rattle.lisp_registration.proofs.Buffers.{is_full, is_written}
use Rattle.lisp_registration.proofs.writing.put_written.Goals as goal

pub returns-then-put-clause-written : goal.returns-then-put-clause-written
returns-then-put-clause-written g c datagram makes =
    (Ok c.in-Ok.bytes.items, rw c.in-Ok.is at makes, is_written c.in-Ok.bytes.items c.args.buffer.now c.put.new.buffer c.put.result c.len.result c.args.length.now (rw c.deref.ensures.value at c.put.ensures) (c.len.ensures ∙ c.in-Ok.bytes.ok.0) c.if-put.true)

pub returns-else-put-clause-written : goal.returns-else-put-clause-written
returns-else-put-clause-written g c datagram makes =
    (Ok c.in-Ok.bytes.items, rw c.in-Ok.is at makes, rw c.number.ensures (is_full c.in-Ok.bytes.items c.args.buffer.now c.put.new.buffer c.put.result c.len.result c.args.length.now (rw c.deref.ensures.value at c.put.ensures) (c.len.ensures ∙ c.in-Ok.bytes.ok.0) c.if-put.false))

pub returns-in-Err-clause-written : goal.returns-in-Err-clause-written
returns-in-Err-clause-written g c datagram makes = (Err c.in-Err.fault, rw c.in-Err.is at makes, ap (λ (n : ℕ). (n, c.args.buffer.now, c.args.length.now)) c.number-in-Err.ensures)

use Rattle.std.proofs.Common.{sym, ◌∙◌, arith}
use Rattle.lisp_registration.specs.Server.{kept_in}
use Rattle.lisp_registration.proofs.Telling.{is_received}
use Rattle.lisp_registration.proofs.server.lisp_registration_server_receive.Goals as goal

pub returns-in-Some-clause-received : goal.returns-in-Some-clause-received
returns-in-Some-clause-received c =
    is_received (kept_in c.args.kept.now) c.args.from.now c.in-Ok.from c.args.bytes.now c.args.buffer.now c.args.now c.args.server.now.value c.in-Some.hosted.value c.args.received.now c.receive_kept-answer.new.server c.receive_kept-answer.result _
    (sym c.source.ensures ∙ c.in-Ok.is) c.in-Some.ensures.value (rw (c.kept.ensures, c.deref_mut.ensures.value) at c.receive_kept-answer.ensures.taken)
    (rw (c.kept.ensures, c.deref_mut.ensures.value) at c.receive_kept-answer.ensures.refused) c.receive_kept-answer.ensures.storeless (rw c.deref_mut.ensures.value at c.receive_kept-answer.ensures.err)
    (λ i. omega (arith, c.type_inv.bytes i)) (λ i. ((c.tell_received.ensures i).0, (c.of.ensures i, (c.tell_received.ensures i).1)))

use Rattle.lisp_records.proofs.Faults.{reads_fault}
use Rattle.lisp_messages.proofs.Ends.{register_refused, register_fails, register_is}
use Rattle.lisp_messages.proofs.register.read_register.Goals as goal

pub returns-then-not-is_set : goal.returns-then-not-is_set
returns-then-not-is_set g c = register_refused c.args.bytes.now c.args.records.items c.args.tail.now c.is_set.result c.is_set.ensures (assumption)

pub returns-in_err-xtr : goal.returns-in_err-xtr
returns-in_err-xtr g c =
    reads_fault _ c.from_residual.result c.in_err-xtr.field-0.0 _ c.from_residual.ensures.1 (register_fails c.args.bytes.now c.args.records.items c.args.tail.now c.is_set.result c.in_err-xtr.field-0.0 c.is_set.ensures (assumption) c.in_err-xtr.ensures)

pub invariant_of-result : goal.invariant_of-result
invariant_of-result g c = rw c.from_vec.ensures c.requires.few

pub returns : goal.returns
returns g c =
    register_is c.args.bytes.now c.args.records.items c.from_vec.result c.args.tail.now c.in_ok-xtr.xtr c.in_ok-xtr.site c.read_nonce.result c.is_set.result c.is_set-2.result c.is_set-3.result c.is_set-4.result c.is_set-5.result c.is_set-6.result c.is_set-7.result
    c.is_set.ensures (assumption) c.in_ok-xtr.ensures c.is_set-2.ensures c.is_set-3.ensures c.is_set-4.ensures c.is_set-5.ensures c.is_set-6.ensures c.is_set-7.ensures c.read_nonce.ensures c.from_vec.ensures

use Rattle.lisp_registration.proofs.Replying.{fault_told, layout_told, none_stand, records_stand}
use Rattle.lisp_registration.proofs.reading.lisp_registration_read_reply.Goals as goal

pub returns-in-Ok-clause-told : goal.returns-in-Ok-clause-told
returns-in-Ok-clause-told c = rw c.of.ensures (layout_told c.args.bytes.now c.in-Ok.layout c.in-Ok.ensures c.args.reply.now)

pub returns-in-Err-clause-told : goal.returns-in-Err-clause-told
returns-in-Err-clause-told c = rw c.number.ensures (fault_told c.args.bytes.now c.in-Err.fault c.args.reply.now c.in-Err.ensures)

pub returns-in-Ok-clause-stand : goal.returns-in-Ok-clause-stand
returns-in-Ok-clause-stand c = rw c.of.ensures (records_stand c.args.bytes.now c.in-Ok.layout c.in-Ok.ensures)

pub returns-in-Err-clause-stand : goal.returns-in-Err-clause-stand
returns-in-Err-clause-stand c = none_stand c.args.bytes.now c.in-Err.fault c.args.reply.now c.in-Err.ensures

use Rattle.std.proofs.Common.{length, ap, arith}
use Rattle.lisp_messages.proofs.WrittenLemmas.{register_head, register_fits}
use Rattle.lisp_messages.proofs.register.head_of.Goals as goal

pub returns-clause-head : goal.returns-clause-head
returns-clause-head g c = register_head _ c.args.message.now c.head.result c.kind_of.result c.flags_of.result c.as_slice.result.now c.message.view_is c.kind_of.ensures c.flags_of.ensures c.as_slice.ensures c.head.ensures.head

pub returns-clause-fits : goal.returns-clause-fits
returns-clause-fits g c = register_fits _ c.args.message.now c.message.view_is c.head.ensures.fits c.message.invariant

pub overflow_cast-count : goal.overflow_cast-count
overflow_cast-count g c = omega (arith, c.message.invariant, ap length c.as_slice.ensures)

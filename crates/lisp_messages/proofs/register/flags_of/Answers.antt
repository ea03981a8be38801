use Rattle.std.proofs.Common.{arith}
use Rattle.lisp_records.proofs.Fields.{flag_below}
use Rattle.lisp_messages.proofs.WrittenLemmas.{flags_made}
use Rattle.lisp_messages.proofs.register.flags_of.Goals as goal

pub overflow_mul-result : goal.overflow_mul-result
overflow_mul-result g c = omega (arith, flag_below c.message.inside.eid_notify c.from.result c.from.ensures)

pub overflow_mul-result-2 : goal.overflow_mul-result-2
overflow_mul-result-2 g c = omega (arith, flag_below c.message.inside.use_ttl c.from-2.result c.from-2.ensures)

pub overflow_add-result : goal.overflow_add-result
overflow_add-result g c = omega (arith, flag_below c.message.inside.eid_notify c.from.result c.from.ensures, flag_below c.message.inside.use_ttl c.from-2.result c.from-2.ensures)

pub overflow_mul-result-3 : goal.overflow_mul-result-3
overflow_mul-result-3 g c = omega (arith, flag_below c.message.inside.merge c.from-3.result c.from-3.ensures)

pub overflow_add-result-2 : goal.overflow_add-result-2
overflow_add-result-2 g c = omega (arith, flag_below c.message.inside.eid_notify c.from.result c.from.ensures, flag_below c.message.inside.use_ttl c.from-2.result c.from-2.ensures, flag_below c.message.inside.merge c.from-3.result c.from-3.ensures)

pub overflow_mul-result-4 : goal.overflow_mul-result-4
overflow_mul-result-4 g c = omega (arith, flag_below c.message.inside.want_notify c.from-4.result c.from-4.ensures)

pub overflow_add-result-3 : goal.overflow_add-result-3
overflow_add-result-3 g c = omega (arith, flag_below c.message.inside.eid_notify c.from.result c.from.ensures, flag_below c.message.inside.use_ttl c.from-2.result c.from-2.ensures, flag_below c.message.inside.merge c.from-3.result c.from-3.ensures, flag_below c.message.inside.want_notify c.from-4.result c.from-4.ensures)

pub returns : goal.returns
returns g c = flags_made _ c.args.message.now c.from.result c.from-2.result c.from-3.result c.from-4.result c.message.view_is c.from.ensures c.from-2.ensures c.from-3.ensures c.from-4.ensures

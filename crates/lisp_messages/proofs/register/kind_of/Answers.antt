use Rattle.std.proofs.Common.{arith}
use Rattle.lisp_records.proofs.Fields.{flag_below}
use Rattle.lisp_messages.proofs.WrittenLemmas.{kind_made}
use Rattle.lisp_messages.proofs.register.kind_of.Goals as goal

pub overflow_mul-result : goal.overflow_mul-result
overflow_mul-result g c = omega (arith, c.number.ensures)

pub overflow_mul-result-2 : goal.overflow_mul-result-2
overflow_mul-result-2 g c = omega (arith, flag_below c.message.inside.proxy c.from.result c.from.ensures)

pub overflow_add-result : goal.overflow_add-result
overflow_add-result g c = omega (arith, c.number.ensures, flag_below c.message.inside.proxy c.from.result c.from.ensures)

pub overflow_mul-result-3 : goal.overflow_mul-result-3
overflow_mul-result-3 g c = omega (arith, flag_below c.message.inside.sec c.from-2.result c.from-2.ensures)

pub overflow_add-result-2 : goal.overflow_add-result-2
overflow_add-result-2 g c = omega (arith, c.number.ensures, flag_below c.message.inside.proxy c.from.result c.from.ensures, flag_below c.message.inside.sec c.from-2.result c.from-2.ensures)

pub overflow_add-result-3 : goal.overflow_add-result-3
overflow_add-result-3 g c = omega (arith, c.number.ensures, flag_below c.message.inside.proxy c.from.result c.from.ensures, flag_below c.message.inside.sec c.from-2.result c.from-2.ensures)

pub returns : goal.returns
returns g c = kind_made _ c.args.message.now c.number.result c.from.result c.from-2.result c.message.view_is c.number.ensures c.from.ensures c.from-2.ensures

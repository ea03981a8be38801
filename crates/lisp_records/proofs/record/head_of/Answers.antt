use Rattle.std.proofs.Common.{arith}
use Rattle.lisp_records.proofs.Fields.{flag_below}
use Rattle.lisp_records.proofs.record.head_of.Goals as goal

pub overflow_cast-result : goal.overflow_cast-result
overflow_cast-result g c = omega (arith, c.locators.ensures.few)

pub overflow_mul-result : goal.overflow_mul-result
overflow_mul-result g c = omega (arith, c.act.ensures.small)

pub overflow_mul-result-2 : goal.overflow_mul-result-2
overflow_mul-result-2 g c = omega (arith, flag_below _ c.from.result c.from.ensures)

pub overflow_add-result : goal.overflow_add-result
overflow_add-result g c = omega (arith, c.act.ensures.small, flag_below _ c.from.result c.from.ensures)

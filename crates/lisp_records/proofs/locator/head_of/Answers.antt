use Rattle.std.proofs.Common.{arith}
use Rattle.lisp_records.proofs.Fields.{flag_below}
use Rattle.lisp_records.proofs.locator.head_of.Goals as goal

pub overflow_mul-flags : goal.overflow_mul-flags
overflow_mul-flags c = omega (arith, flag_below c.args.locator.now.local c.from.result c.from.ensures)

pub overflow_mul-flags-2 : goal.overflow_mul-flags-2
overflow_mul-flags-2 c = omega (arith, flag_below c.args.locator.now.probe c.from-2.result c.from-2.ensures)

pub overflow_add-flags : goal.overflow_add-flags
overflow_add-flags c = omega (arith, flag_below c.args.locator.now.local c.from.result c.from.ensures, flag_below c.args.locator.now.probe c.from-2.result c.from-2.ensures)

pub overflow_mul-flags-3 : goal.overflow_mul-flags-3
overflow_mul-flags-3 c = omega (arith, flag_below c.args.locator.now.reachable c.from-3.result c.from-3.ensures)

pub overflow_add-flags-2 : goal.overflow_add-flags-2
overflow_add-flags-2 c = omega (arith, flag_below c.args.locator.now.local c.from.result c.from.ensures, flag_below c.args.locator.now.probe c.from-2.result c.from-2.ensures, flag_below c.args.locator.now.reachable c.from-3.result c.from-3.ensures)

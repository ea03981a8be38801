use Rattle.std.proofs.Common.{arith}
use Rattle.lisp_texts.proofs.Hex.{digits, is_done}
use Rattle.lisp_texts.proofs.text.group.Goals as goal

pub overflow_mul-value : goal.overflow_mul-value
overflow_mul-value c = grind (arith, digits)

pub overflow_add-value : goal.overflow_add-value
overflow_add-value c = grind (arith, digits)

pub loop-digit-preserved : goal.loop-digit-preserved
loop-digit-preserved c = grind (arith, digits)

pub returns : goal.returns
returns c = is_done c.args.text.now c.loop-digit.digit-index c.loop-digit.value c.if-is_empty.ensures (omega arith) (omega arith) c.loop-digit.invariant.digits c.loop-digit.invariant.value

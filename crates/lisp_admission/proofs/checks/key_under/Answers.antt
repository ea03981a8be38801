use Rattle.std.proofs.Common.{arith}
use Rattle.lisp_admission.proofs.Other.{is_other, handed_on}
use Rattle.lisp_admission.proofs.checks.key_under.Goals as goal

pub returns-in_default-clause-plain : goal.returns-in_default-clause-plain
returns-in_default-clause-plain g c = is_other (omega arith)

pub returns-in_default-clause-storeless : goal.returns-in_default-clause-storeless
returns-in_default-clause-storeless g c = (is_other (omega arith), is_other (omega arith))

pub returns-in_default-key-clause-plain : goal.returns-in_default-key-clause-plain
returns-in_default-key-clause-plain g c = is_other (omega arith)

pub returns-in_default-key-clause-storeless : goal.returns-in_default-key-clause-storeless
returns-in_default-key-clause-storeless g c = (is_other (omega arith), is_other (omega arith))

pub returns-then-not-authentic_under-clause-plain : goal.returns-then-not-authentic_under-clause-plain
returns-then-not-authentic_under-clause-plain g c = is_other (omega arith)

pub returns-then-not-authentic_under-clause-storeless : goal.returns-then-not-authentic_under-clause-storeless
returns-then-not-authentic_under-clause-storeless g c = (is_other (omega arith), is_other (omega arith))

pub returns-in_err-admit-clause-plain : goal.returns-in_err-admit-clause-plain
returns-in_err-admit-clause-plain g c = handed_on c.from_residual.result _ _ c.from_residual.ensures.1 c.in_err-admit.ensures.plain

pub returns-in_err-admit-clause-storeless : goal.returns-in_err-admit-clause-storeless
returns-in_err-admit-clause-storeless g c = (
  handed_on c.from_residual.result _ _ c.from_residual.ensures.1 c.in_err-admit.ensures.storeless.0,
  handed_on c.from_residual.result _ _ c.from_residual.ensures.1 c.in_err-admit.ensures.storeless.1,
)

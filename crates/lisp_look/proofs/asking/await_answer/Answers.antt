use Rattle.std.proofs.Common.{None}
use Rattle.lisp_look.proofs.Calls.{awaits_more, awaits_fault}
use Rattle.lisp_look.proofs.asking.await_answer.Goals as goal
use Rattle.lisp_look.proofs.asking.await_answer.Goals.{else-loop-test, then-loop-test+in_ok-answer+in-Nothing}

pub returns-in_err-answer-clause-awaits : goal.returns-in_err-answer-clause-awaits
returns-in_err-answer-clause-awaits g c =
    awaits_fault c.args.look.now c.args.started _ _ c.from_residual.result c.in_err-answer.field-0.0 c.from_residual.ensures.1
    (awaits_more c.args.look.now c.args.started _ _ _ None c.loop.invariant c.in_err-answer.ensures.awaits)

pub returns-in-Answered-clause-awaits : goal.returns-in-Answered-clause-awaits
returns-in-Answered-clause-awaits g c =
    awaits_more c.args.look.now c.args.started _ _ _ _ c.loop.invariant (rw c.in-Answered.is at c.in_ok-answer.ensures.awaits)

pub loop-preserved : goal.loop-preserved
loop-preserved g c = awaits_more c.args.look.now c.args.started _ _ _ None c.loop.invariant (rw c.in-Other.is at c.in_ok-answer.ensures.awaits)

pub returns-clause-awaits : goal.returns-clause-awaits
returns-clause-awaits g c = elim c.loop-test.branch [
  | else-loop-test w ↦ rw w.outside-is c.loop.invariant
  | then-loop-test+in_ok-answer+in-Nothing w ↦ rw w.outside-is (awaits_more c.args.look.now c.args.started _ _ _ None c.loop.invariant (rw w.in-Nothing.is at w.in_ok-answer.ensures.awaits))
]

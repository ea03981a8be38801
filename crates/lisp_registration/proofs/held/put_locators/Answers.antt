use Rattle.std.proofs.Common.{arith}
use Rattle.lisp_registration.specs.Plain.{plain_locator}
use Rattle.lisp_registration.proofs.Putting.{front_more}
use Rattle.lisp_registration.proofs.held.put_locators.Goals as goal

pub loop-place-preserved : goal.loop-place-preserved
loop-place-preserved c =
    rw c.of.ensures (front_more (λ l. plain_locator l 0) c.args.locators.now c.args.plain.now c.loop-place.plain c.loop-place.place _ c.of.result c.loop-place-test.true (omega (arith, c.if-locators-plain.false)) c.loop-place.invariant)

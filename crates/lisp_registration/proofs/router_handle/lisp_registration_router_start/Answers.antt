use Rattle.std.proofs.Common.{Ok, Err}
use Rattle.lisp_registration.proofs.router_handle.lisp_registration_router_start.Goals as goal

pub returns-in-Ok-clause-started : goal.returns-in-Ok-clause-started
returns-in-Ok-clause-started c = (Ok c.in-Ok.hosted.value, rw c.kept.ensures at c.in-Ok.ensures.started, (λ i. (0, c.of.ensures i)))

pub returns-in-Err-clause-started : goal.returns-in-Err-clause-started
returns-in-Err-clause-started c = (Err c.in-Err.fault, rw c.kept.ensures at c.in-Err.ensures.started, (λ i. (c.number.ensures i, c.args.router.now.value)))

use Rattle.std.proofs.Common.{Ok, Err}
use Rattle.lisp_registration.proofs.server.lisp_registration_server_start.Goals as goal

pub returns-in-Ok-clause-started : goal.returns-in-Ok-clause-started
returns-in-Ok-clause-started c = (Ok c.in-Ok.hosted.value, c.in-Ok.ensures.started, (λ i. (0, c.of.ensures i)))

pub returns-in-Err-clause-started : goal.returns-in-Err-clause-started
returns-in-Err-clause-started c = (Err c.in-Err.fault, c.in-Err.ensures.started, (λ i. (c.number.ensures i, c.args.server.now.value)))

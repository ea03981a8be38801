use Rattle.std.proofs.Common.{refl}
use Rattle.lisp_registration.proofs.router.lisp_registration_router_due.Goals as goal

pub returns-in-Some : goal.returns-in-Some
returns-in-Some c = rw (c.in-Some.ensures.value, c.of-in-Some.ensures, c.of.ensures, c.due.ensures.due, c.deref.ensures) refl

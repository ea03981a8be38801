use Rattle.std.proofs.Common.{List, None, Ok, Err, refl}
use Rattle.lisp_records.specs.Record.{MapRecordValue}
use Rattle.lisp_etr.specs.Config.{EtrConfigValue}
use Rattle.lisp_registration.proofs.Configured.{fault_follows}
use Rattle.lisp_registration.proofs.router_handle.lisp_registration_router_change.Goals as goal

pub returns-in-Err-clause-changed : goal.returns-in-Err-clause-changed
returns-in-Err-clause-changed c = (Err c.in-Err.fault, fault_follows {X = EtrConfigValue × List MapRecordValue} (λ x. x) (λ x. Ok x.1) c.in-Err.fault _ c.in-Err.ensures.settings, (λ i. (c.number.ensures i, c.args.router.now.value)))

pub returns-in-Some-clause-changed : goal.returns-in-Some-clause-changed
returns-in-Some-clause-changed c = (Ok c.in-Ok.settings.1, rw c.in-Ok.ensures.settings refl, rw (c.in-Some.ensures.value, c.of.ensures, c.change.ensures, c.deref_mut.ensures.value) refl)

pub returns-in-None-clause-changed : goal.returns-in-None-clause-changed
returns-in-None-clause-changed c = (Ok c.in-Ok.settings.1, rw c.in-Ok.ensures.settings refl, rw (c.in-None.ensures.value, c.take.ensures.left) (λ i. (c.number-in-None.ensures i, None)))

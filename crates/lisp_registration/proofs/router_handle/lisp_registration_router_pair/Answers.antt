use Rattle.std.proofs.Common.{List, Ok, Err, refl}
use Rattle.lisp_records.specs.Record.{MapRecordValue}
use Rattle.lisp_etr.specs.Config.{EtrConfigValue, sent_pair}
use Rattle.lisp_registration.proofs.Configured.{fault_follows}
use Rattle.lisp_registration.proofs.router_handle.lisp_registration_router_pair.Goals as goal

pub returns-in-Ok-clause-pair : goal.returns-in-Ok-clause-pair
returns-in-Ok-clause-pair c = (Ok (sent_pair c.in-Ok.settings), rw c.in-Ok.ensures.settings refl, rw (c.of.ensures, c.pair.ensures) refl)

pub returns-clause-pair : goal.returns-clause-pair
returns-clause-pair c = (Err c.in-Err.fault, fault_follows {X = EtrConfigValue × List MapRecordValue} (λ x. x) (λ x. Ok (sent_pair x.0)) c.in-Err.fault _ c.in-Err.ensures.settings, (λ i. (c.number.ensures i, c.args.pair.now)))

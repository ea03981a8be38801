use Rattle.std.proofs.Common.{ℕ, true, ap, subst}
use Rattle.lisp_messages.specs.Message.{MapNotifyValue, IsMapNotify}
use Rattle.lisp_etr.proofs.etr.Etr.notice.Goals as goal

pub returns-clause-fits : goal.returns-clause-fits
returns-clause-fits g c = subst (λ (key : ℕ). IsMapNotify (record { ack = true; nonce = c.notify.inside.nonce; key_id = key; records = c.notify.inside.records })) (ap (λ (m : MapNotifyValue). m.key_id) c.notify.view_is) c.in_ok-bytes.ensures.known
